-- Code pages: byte and character lead to each other, and where a page lacks a byte no character begins.
use Rattle.std.proofs.Common.{◌≡◌, ℕ, ◌+◌, ◌-◌, ◌<◌, ◌≤◌, ◌∙◌, ◌++◌, List, [], ◌∷◌, Bool, true, false, cond, nat_le, if◌then◌else◌, Option, Some, None, length, take, drop, get_or, ap, sym, subst, refl, arith}
use Rattle.std.specs.Option.{is_some, option_map, unwrap_or}
use Rattle.std.specs.List.{find, flat_map, list_all}
use Rattle.std.proofs.Math.Utf8.{encode, scalar}
use Rattle.std.proofs.lemmas.Bool.{and_parts, leb-true}
use Rattle.std.proofs.lemmas.List.{drop_more}
use Rattle.std.proofs.lemmas.List.Folds.{list_all-append}
use Rattle.eci_sets.specs.CharacterSets.{encoding_of}
use Rattle.eci_sets.specs.CodePages.{as_character, byte_by_ranges, byte_for, character_by_ranges, character_for, character_in, covers_byte, range_pairs, ranges_of}
use Rattle.eci_sets.specs.Encodings.{BeginsWith, StopsAt}
use Rattle.eci_sets.specs.declared.character_set.CharacterSet.TheVariants.{SingleByte}
use Rattle.eci_sets.specs.declared.code_page.CodePage.{CodePage}
use Rattle.eci_sets.specs.declared.tables.CodeRange.{CodeRange}
use Rattle.eci_sets.proofs.Decoded.{Decoded, more_decoded, stops}
use Rattle.eci_sets.proofs.TableLemmas.{byte_for_is, goes_back, is_just, just, pair_test, pairs_at, tested}

some_value : (n c : ℕ) → Some n ≡ Some c → n ≡ c
some_value n c e = cc

scalar_same : (n c : ℕ) → as_character n ≡ Some c → (n ≡ c) × (scalar c ≡ true)
scalar_same n c e = elim (scalar n) as (λ t. scalar n ≡ t → (if t then Some n else None) ≡ Some c → (n ≡ c) × (scalar c ≡ true)) [
  | true ↦ λ is same. let e : n ≡ c = some_value n c same in (e, ap scalar (sym e) ∙ is)
  | false ↦ λ _ impossible. cc
] refl e

character_found : (t : ℕ × ℕ → Bool) (rs : List CodeRange) (b c : ℕ) → list_all t (flat_map range_pairs rs) ≡ true → character_in b (find (covers_byte b) rs) ≡ Some c → (t (b, c) ≡ true) × (scalar c ≡ true)
character_found t [] b c all e = cc
character_found t (r ∷ rs) b c all e =
    let parts = and_parts (list_all t (range_pairs r)) (list_all t (flat_map range_pairs rs)) (sym (list_all-append t (range_pairs r) (flat_map range_pairs rs)) ∙ all) in
    elim (covers_byte b r) as (λ s. covers_byte b r ≡ s → character_in b (cond s (Some r) (find (covers_byte b) rs)) ≡ Some c → (t (b, c) ≡ true) × (scalar c ≡ true)) [
      | true ↦ λ is found.
          let both = and_parts (nat_le r.first b) (nat_le b r.last) is in
          let low : r.first ≤ b = leb-true r.first b both.0 in
          let high : b ≤ r.last = leb-true b r.last both.1 in
          let char = scalar_same (r.character + (b - r.first)) c found in
          let back : r.first + (b - r.first) ≡ b = omega arith in
          (ap (λ x. t (b, x)) (sym char.0) ∙ ap (λ x. t (x, r.character + (b - r.first))) (sym back) ∙ pairs_at t ((r.last + 1) - r.first) r.first r.character (b - r.first) parts.0 (omega arith), char.1)
      | false ↦ λ is found. character_found t rs b c parts.1 found
    ] refl e

pub goes_forth : (page : CodePage) (b c : ℕ) → character_for page b ≡ Some c → (byte_for page c ≡ Some b) × (scalar c ≡ true)
unfolding character_for character_by_ranges
goes_forth page b c e =
    let p = character_found (pair_test (ranges_of page)) (ranges_of page) b c (tested page) e in
    (byte_for_is page c ∙ just b (byte_by_ranges (ranges_of page) c) (and_parts (is_just c (character_by_ranges (ranges_of page) b)) (is_just b (byte_by_ranges (ranges_of page) c)) p.0).1, p.1)

-- one byte more
next_byte : (bytes : List ℕ) (place b : ℕ) → place < length bytes → b ≡ get_or bytes place 0 → drop place bytes ≡ b ∷ drop (place + 1) bytes
next_byte bytes place b below is = drop_more bytes place 0 below ∙ ap (λ x. x ∷ drop (place + 1) bytes) (sym is)

pub byte_decoded : (page : CodePage) (bytes : List ℕ) (place b c : ℕ) (text : List ℕ) → Decoded (SingleByte page) bytes place text → place < length bytes
    → b ≡ get_or bytes place 0 → character_for page b ≡ Some c → Decoded (SingleByte page) bytes (place + 1) (text ++ encode c)
unfolding encoding_of
byte_decoded page bytes place b c text d below is stands =
    let f = goes_forth page b c stands in
    more_decoded (SingleByte page) bytes place 1 c text d (omega arith) f.1 (ap (λ o. is_some (option_map (λ x. x ∷ []) o)) f.0)
    (ap (take 1) (next_byte bytes place b below is) ∙ ap (λ o. unwrap_or (option_map (λ x. x ∷ []) o) []) (sym f.0))

-- a byte that stands for no character
same_head : (x y : ℕ) (r s : List ℕ) → x ∷ r ≡ y ∷ s → x ≡ y
same_head x y r s e = cc

no_character : (page : CodePage) (c : ℕ) (o : Option ℕ) (x : ℕ) (r s : List ℕ) → byte_for page c ≡ o → is_some (option_map (λ b. b ∷ []) o) ≡ true
    → character_for page x ≡ None → x ∷ r ≡ unwrap_or (option_map (λ b. b ∷ []) o) [] ++ s → ⊥
no_character page c None x r s is some lacks e = cc
no_character page c (Some b) x r s is some lacks e =
    let back = ap (character_for page) (same_head x b r s e) ∙ goes_back page c b is in
    cc

none_begins : (page : CodePage) (x : ℕ) (r : List ℕ) → character_for page x ≡ None → (c : ℕ) → BeginsWith (SingleByte page) c (x ∷ r) → ⊥
unfolding encoding_of
none_begins page x r lacks c is = no_character page c (byte_for page c) x r is.0 refl is.2 lacks is.3

pub byte_stops : (page : CodePage) (bytes : List ℕ) (place b : ℕ) (text : List ℕ) → Decoded (SingleByte page) bytes place text → place < length bytes
    → b ≡ get_or bytes place 0 → character_for page b ≡ None → StopsAt (SingleByte page) bytes place
byte_stops page bytes place b text d below is lacks =
    stops (SingleByte page) bytes place text d below (λ c begins. none_begins page b (drop (place + 1) bytes) lacks c
    (subst (λ (t : List ℕ). BeginsWith (SingleByte page) c t) (next_byte bytes place b below is) begins))
