-- Texts with commas: what stands on either side of the first one, and identifiers of sets.
use Rattle.std.proofs.Common.{◌≡◌, ℕ, ◌+◌, ◌<◌, ◌≤◌, ◌||◌, Bool, true, false, not, cond, List, [], ◌∷◌, length, Option, Some, None, option_map, All, refl, arith}
use Rattle.std.specs.Borrow.{Bor}
use Rattle.std.specs.Char.{is_ascii_graphic}
use Rattle.std.specs.List.{list_all, list_any, position_or_len, before_first, after_first}
use Rattle.std.specs.Prelude.{MatchOption}
use Rattle.std.proofs.lemmas.Bool.{leb-true}
use Rattle.std.proofs.lemmas.List.Elements.{All-weaker}
use Rattle.std.proofs.lemmas.List.Sums.{AllPass-from_list_all}
use Rattle.std.proofs.lemmas.Str.Pattern.{IsSplitOnceResult, split_once_first}
use Rattle.clap.proofs.WalkLemmas.{both}
use Rattle.zint_words.specs.Commas.{is_comma, parts_at_comma}
use Rattle.zint_words.specs.SetPlace.{is_identifier}

-- where a first element that passes stands within the list, one passes
pub any_within : {X : Type 0} (p : X → Bool) (xs : List X) → position_or_len p xs < length xs → list_any p xs ≡ true
any_within p [] within = absurd (omega (arith, within))
any_within p (x ∷ xs) within = elim (p x) as (λ t. cond (not t) (1 + position_or_len p xs) 0 < length (x ∷ xs) → (t || list_any p xs) ≡ true) [
  | true ↦ λ e. refl
  | false ↦ λ e. any_within p xs (omega (arith, e))
] within

-- where the search for one comes to the end, none passes
pub none_within : {X : Type 0} (p : X → Bool) (xs : List X) → position_or_len p xs ≡ length xs → list_any p xs ≡ false
none_within p [] past = refl
none_within p (x ∷ xs) past = elim (p x) as (λ t. cond (not t) (1 + position_or_len p xs) 0 ≡ length (x ∷ xs) → (t || list_any p xs) ≡ false) [
  | true ↦ λ e. absurd (omega (arith, e))
  | false ↦ λ e. none_within p xs (omega (arith, e))
] past

found : (t : List ℕ) (r : Option (Bor (List ℕ) × Bor (List ℕ)))
    → MatchOption r (position_or_len is_comma t ≡ length t)
    (λ x. (position_or_len is_comma t < length t) × (x.0.now ≡ before_first is_comma t) × (x.1.now ≡ after_first is_comma t))
    → option_map (λ p. (p.0.now, p.1.now)) r ≡ parts_at_comma t
unfolding parts_at_comma
found t None past = rw (none_within is_comma t past) refl
found t (Some x) at_first = rw (any_within is_comma t at_first.0, at_first.1, at_first.2) refl

-- `split_once` at a comma gives the parts at the first comma
pub parts_read : (t : List ℕ) (r : Option (Bor (List ℕ) × Bor (List ℕ))) → IsSplitOnceResult 44 t r
    → option_map (λ p. (p.0.now, p.1.now)) r ≡ parts_at_comma t
parts_read t r splits = found t r (split_once_first 44 t r splits (omega arith))

graphic : (byte : ℕ) → is_ascii_graphic byte ≡ true → (33 ≤ byte) × (byte ≤ 126)
graphic byte is = let bounds = both _ _ is in (leb-true 33 byte bounds.0, leb-true byte 126 bounds.1)

all_graphic : (t : List ℕ) → list_all is_ascii_graphic t ≡ true → All (λ byte. (33 ≤ byte) × (byte ≤ 126)) t
all_graphic t all = All-weaker (λ byte. is_ascii_graphic byte ≡ true) _ graphic t (AllPass-from_list_all is_ascii_graphic t all)

-- an identifier has at most 32 bytes
pub identifier_few : (t : List ℕ) → is_identifier t ≡ true → length t ≤ 32
identifier_few t is =
    let lengths = both _ _ is in
    leb-true (length t) 32 (both _ _ lengths.0).1

-- each of them is from 33 to 126
pub identifier_graphic : (t : List ℕ) → is_identifier t ≡ true → All (λ byte. (33 ≤ byte) × (byte ≤ 126)) t
identifier_graphic t is = all_graphic t (both _ _ is).1
