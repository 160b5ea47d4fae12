-- The tables of full ASCII read backward: each byte is found again by the values that draw it.
use Rattle.std.proofs.Common.{◌≡◌, ℕ, ◌==◌, ◌&&◌, ◌<◌, ◌≤◌, nat_lt, not, Bool, true, false, All, List, [], ◌∷◌, ◌++◌, length, slice_index, option_to_list, Option, Some, None, inl, inr, refl, sym, ap, ◌∙◌, arith, ne_eqb, if◌then◌else◌}
use Rattle.std.proofs.lemmas.Bool.{agree_below, agree_below_at, and_parts, cases_lt, eqb-true, ltb-true}
use Rattle.std.proofs.lemmas.List.{get_or_past}
use Rattle.std.specs.List.{list_all}
use Rattle.std.proofs.lemmas.List.Elements.{All-cons, All-nil}
use Rattle.bar_base.proofs.ListLemmas.{position-none_back, list_all-weaker}
use Rattle.linear_codes.specs.declared.characters.TheConstants.{CHARACTERS}
use Rattle.linear_codes.specs.declared.full_ascii.TheConstants.{FULL_ASCII_SIGNS, FULL_ASCII_LETTERS}
use Rattle.linear_codes.specs.Characters.{characters, character_value}
use Rattle.linear_codes.specs.FullAscii.{full_ascii_signs, full_ascii_letters, full_ascii_sign, full_ascii_letter}
use Rattle.linear_codes.specs.Code39.{values39_full}
use Rattle.linear_codes.specs.Code93.{values93, values_or_shifted, shift_of}
use Rattle.linear_reader.specs.declared.symbology.RowSymbology.{RowSymbology}
use Rattle.linear_reader.specs.declared.symbology.RowSymbology.TheVariants.{Code39Full, Code93}
use Rattle.linear_reader.specs.Patterns.{first_from}
use Rattle.linear_reader.specs.Data.{is_drawn_alone, is_drawn_by_pair, drawn_values, byte_alone, byte_of_pair}

-- whether an option is this number
is_number : Option ℕ → ℕ → Bool
is_number None byte = false
is_number (Some other) byte = other == byte

is_none : Option ℕ → Bool
is_none None = true
is_none (Some other) = false

-- Whether a byte is found again by the values that draw it.
found_again : RowSymbology → ℕ → Bool
found_again s byte =
    if length (drawn_values s byte) == 1 then is_number (byte_alone s (slice_index (drawn_values s byte) 0)) byte
    else if length (drawn_values s byte) == 2 then
    is_none (byte_alone s (slice_index (drawn_values s byte) 0))
    && is_number (byte_of_pair s (slice_index (drawn_values s byte) 0) (slice_index (drawn_values s byte) 1)) byte
    else false

all_found39 : agree_below (found_again Code39Full) (λ _. true) 128 ≡ true
unfolding found_again is_number is_none drawn_values byte_alone byte_of_pair first_from is_drawn_alone is_drawn_by_pair values39_full character_value characters full_ascii_sign full_ascii_letter full_ascii_signs full_ascii_letters
all_found39 = refl

all_found93 : agree_below (found_again Code93) (λ _. true) 128 ≡ true
unfolding found_again is_number is_none drawn_values byte_alone byte_of_pair first_from is_drawn_alone is_drawn_by_pair values93 values_or_shifted shift_of character_value characters full_ascii_sign full_ascii_letter full_ascii_signs full_ascii_letters
all_found93 = refl

is_same : (found : Option ℕ) (byte : ℕ) → is_number found byte ≡ true → found ≡ Some byte
unfolding is_number
is_same None byte is = absurd (cc)
is_same (Some other) byte is = ap Some (eqb-true other byte is)

is_nothing : (found : Option ℕ) → is_none found ≡ true → found ≡ None
unfolding is_none
is_nothing None is = refl
is_nothing (Some other) is = absurd (cc)

-- How values draw a byte: alone, or with a sign in front.
pub data Draws (s : RowSymbology) (byte : ℕ) : List ℕ → Type 0 where
  alone : {value : ℕ} → byte_alone s value ≡ Some byte → Draws s byte (value ∷ [])
  paired : {sign value : ℕ} → byte_alone s sign ≡ None → byte_of_pair s sign value ≡ Some byte → Draws s byte (sign ∷ value ∷ [])

too_many : (count : ℕ) (one two : Bool) → 3 ≤ count → (if count == 1 then one else if count == 2 then two else false) ≡ true → ⊥
too_many count one two many is =
    let first = ap (λ (b : Bool). if b then one else if count == 2 then two else false) (ne_eqb count 1 (λ same. omega arith)) in
    let second = ap (λ (b : Bool). if b then two else false) (ne_eqb count 2 (λ same. omega arith)) in
    let e : false ≡ true = sym second ∙ sym first ∙ is in cc

by_list : (s : RowSymbology) (byte : ℕ) (drawn : List ℕ)
    → (if length drawn == 1 then is_number (byte_alone s (slice_index drawn 0)) byte
    else if length drawn == 2 then
    is_none (byte_alone s (slice_index drawn 0)) && is_number (byte_of_pair s (slice_index drawn 0) (slice_index drawn 1)) byte
    else false) ≡ true
    → Draws s byte drawn
by_list s byte [] is = absurd (cc)
by_list s byte (value ∷ []) is = alone (is_same (byte_alone s value) byte is)
by_list s byte (sign ∷ value ∷ []) is =
    let parts = and_parts (is_none (byte_alone s sign)) (is_number (byte_of_pair s sign value) byte) is in
    paired (is_nothing (byte_alone s sign) parts.0) (is_same (byte_of_pair s sign value) byte parts.1)
by_list s byte (a ∷ b ∷ c ∷ more) is = absurd (too_many (length (a ∷ b ∷ c ∷ more)) _ _ (omega arith) is)

pub draws39 : (byte : ℕ) → byte < 128 → Draws Code39Full byte (drawn_values Code39Full byte)
unfolding found_again
draws39 byte small = by_list Code39Full byte (drawn_values Code39Full byte) (agree_below_at (found_again Code39Full) (λ _. true) 128 byte all_found39 small)

pub draws93 : (byte : ℕ) → byte < 128 → Draws Code93 byte (drawn_values Code93 byte)
unfolding found_again
draws93 byte small = by_list Code93 byte (drawn_values Code93 byte) (agree_below_at (found_again Code93) (λ _. true) 128 byte all_found93 small)

-- Bytes that are drawn by any values are bytes of ASCII.
past_signs : (byte : ℕ) → 128 ≤ byte → full_ascii_sign byte ≡ 0
unfolding full_ascii_sign full_ascii_signs
past_signs byte past = get_or_past FULL_ASCII_SIGNS byte 0 past

past_letters : (byte : ℕ) → 128 ≤ byte → full_ascii_letter byte ≡ 0
unfolding full_ascii_letter full_ascii_letters
past_letters byte past = get_or_past FULL_ASCII_LETTERS byte 0 past

none_at_zero : character_value 0 ≡ None
unfolding character_value characters
none_at_zero = refl

none_past39 : (byte : ℕ) → 128 ≤ byte → values39_full byte ≡ []
unfolding values39_full
none_past39 byte past =
    ap (λ (n : ℕ). if n == 61 then option_to_list (character_value byte) else option_to_list (character_value n) ++ option_to_list (character_value (full_ascii_letter byte))) (past_signs byte past)
    ∙ ap (λ (n : ℕ). option_to_list (character_value 0) ++ option_to_list (character_value n)) (past_letters byte past)
    ∙ ap (λ (v : Option ℕ). option_to_list v ++ option_to_list v) none_at_zero

pub drawn_small39 : (byte : ℕ) → (length (values39_full byte) == 0) ≡ false → byte < 128
drawn_small39 byte some = elim (cases_lt byte 128) [
  | inl small ↦ small
  | inr past ↦ absurd (let e : (length (values39_full byte) == 0) ≡ true = ap (λ (vs : List ℕ). length vs == 0) (none_past39 byte past) in cc)
]

values_light : (byte : ℕ) → 128 ≤ byte → values_or_shifted None byte ≡ []
unfolding values_or_shifted shift_of
values_light byte past =
    ap (λ (n : ℕ). option_to_list (shift_of n) ++ option_to_list (character_value (full_ascii_letter byte))) (past_signs byte past)
    ∙ ap (λ (n : ℕ). option_to_list (shift_of 0) ++ option_to_list (character_value n)) (past_letters byte past)
    ∙ ap (λ (v : Option ℕ). option_to_list (shift_of 0) ++ option_to_list v) none_at_zero

all_ascii : list_all (λ character. nat_lt character 128) CHARACTERS ≡ true
all_ascii = refl

character_past : (byte : ℕ) → 128 ≤ byte → character_value byte ≡ None
unfolding character_value characters
character_past byte past =
    position-none_back (λ character. character == byte) CHARACTERS
    (list_all-weaker (λ character. nat_lt character 128) (λ character. not (character == byte))
    (λ character small. let below = ltb-true character 128 small in ap not (ne_eqb character byte (λ same. omega arith))) CHARACTERS all_ascii)

none_past93 : (byte : ℕ) → 128 ≤ byte → values93 byte ≡ []
unfolding values93
none_past93 byte past = ap (λ (v : Option ℕ). values_or_shifted v byte) (character_past byte past) ∙ values_light byte past

pub drawn_small93 : (byte : ℕ) → (length (values93 byte) == 0) ≡ false → byte < 128
drawn_small93 byte some = elim (cases_lt byte 128) [
  | inl small ↦ small
  | inr past ↦ absurd (let e : (length (values93 byte) == 0) ≡ true = ap (λ (vs : List ℕ). length vs == 0) (none_past93 byte past) in cc)
]

-- Values are below the number of patterns.
few39_test : agree_below (λ byte. list_all (λ value. nat_lt value 43) (values39_full byte)) (λ _. true) 128 ≡ true
unfolding values39_full character_value characters full_ascii_sign full_ascii_letter full_ascii_signs full_ascii_letters
few39_test = refl

few93_test : agree_below (λ byte. list_all (λ value. nat_lt value 47) (values93 byte)) (λ _. true) 128 ≡ true
unfolding values93 values_or_shifted shift_of character_value characters full_ascii_sign full_ascii_letter full_ascii_signs full_ascii_letters
few93_test = refl

all_below : (bound : ℕ) (values : List ℕ) → list_all (λ value. nat_lt value bound) values ≡ true → All (λ value. value < bound) values
all_below bound [] all = All-nil (λ value. value < bound)
all_below bound (value ∷ values) all =
    let parts = and_parts (nat_lt value bound) (list_all (λ v. nat_lt v bound) values) all in
    All-cons (λ v. v < bound) value values (ltb-true value bound parts.0) (all_below bound values parts.1)

pub values_small39 : (byte : ℕ) → byte < 128 → All (λ value. value < 43) (values39_full byte)
values_small39 byte small = all_below 43 (values39_full byte) (agree_below_at (λ b. list_all (λ value. nat_lt value 43) (values39_full b)) (λ _. true) 128 byte few39_test small)

pub values_small93 : (byte : ℕ) → byte < 128 → All (λ value. value < 47) (values93 byte)
values_small93 byte small = all_below 47 (values93 byte) (agree_below_at (λ b. list_all (λ value. nat_lt value 47) (values93 b)) (λ _. true) 128 byte few93_test small)
