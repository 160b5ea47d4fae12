-- A section has no fault exactly where it is that of an element string.
use Rattle.std.proofs.Common.{◌≡◌, ℕ, zero, suc, ◌+◌, ◌-◌, ◌<◌, ◌∙◌, List, ◌==◌, ◌&&◌, ◌||◌, [], ◌∷◌, ◌++◌, Bool, true, false, cond, not, nat_lt, if◌then◌else◌, Option, Some, None, length, take, drop, get_or, ap, sym, refl, arith, inl, inr, add-one}
use Rattle.std.specs.Option.{option_or}
use Rattle.std.specs.Char.{digit_value, is_ascii_digit}
use Rattle.std.specs.List.{list_all, position, position_or_len}
use Rattle.std.proofs.Math.Seq.{drop-cons, take-append_seam, drop-append-add, get_or-append_seam}
use Rattle.std.proofs.lemmas.Bool.{cases_lt, eqb-true, eq-eqb, and_parts}
use Rattle.std.proofs.lemmas.Bool.Decides.{nat_tests}
use Rattle.std.proofs.lemmas.List.Folds.{list_all-append}
use Rattle.std.specs.Str.Parse.{digits_value}
use Rattle.std.proofs.lemmas.List.{take-append-drop, get_or_past}
use Rattle.gs1_check.specs.Identifiers.{all_digits, identifier_format, identifier_number, format_by_number}
use Rattle.gs1_check.specs.Sections.{character_fault_at, rule_fault, character_fault, closing_bracket, identified_fault, given_digit, is_in_set_82, is_date, length_fault, length_fits, is_no_digit, numeric_fault, opening_bracket, is_outside, section_fault, sized_fault, value_fault, wanted_digit}
use Rattle.gs1_check.specs.ElementStrings.{FitsFormat, IsElementString, ElementString, section_string}
use Rattle.bar_base.proofs.ListLemmas.{list_all-weaker, position-none}
use Rattle.gs1_check.specs.declared.brackets.Brackets.{Brackets}
use Rattle.gs1_check.specs.declared.brackets.Brackets.TheVariants.{Square, Round}
use Rattle.gs1_check.specs.declared.fault.Gs1Fault.{Gs1Fault}
use Rattle.gs1_check.specs.declared.fault.Gs1Fault.TheVariants.{BadBracket, BadLength, BadDate, BadCheck}
use Rattle.gs1_check.specs.declared.identifiers.Format.{Format}
use Rattle.gs1_check.specs.declared.identifiers.Rule.{Rule}
use Rattle.gs1_check.specs.declared.identifiers.Rule.TheVariants as rule

-- identifier, closing bracket, value
abbrev pub section_of : Brackets → ElementString → List ℕ
section_of b i = i.identifier ++ closing_bracket b ∷ i.value

-- from no fault to the parts
none_both : (o p : Option Gs1Fault) → option_or o p ≡ None → (o ≡ None) × (p ≡ None)
none_both None p e = (refl, e)
none_both (Some f) p e = cc

none_place : (at : ℕ) (o : Option ℕ) → character_fault_at at o ≡ None → o ≡ None
none_place at None e = refl
none_place at (Some k) e = cc

none_if : (t : Bool) (f : Gs1Fault) → (if t then None else Some f) ≡ None → t ≡ true
none_if true f e = refl
none_if false f e = cc

by_date : (at : ℕ) (f : Format) (v : List ℕ) (r : Rule) → rule_fault at f v r ≡ None → r ≡ rule.Date → is_date v ≡ true
by_date at f v rule.Plain e is = cc
by_date at f v rule.Date e is = none_if (is_date v) (BadDate at) e
by_date at f v rule.Check e is = cc

by_check : (at : ℕ) (f : Format) (v : List ℕ) (r : Rule) → rule_fault at f v r ≡ None → r ≡ rule.Check → given_digit f v ≡ wanted_digit f v
by_check at f v rule.Plain e is = cc
by_check at f v rule.Date e is = cc
by_check at f v rule.Check e is = eqb-true (given_digit f v) (wanted_digit f v) (none_if (given_digit f v == wanted_digit f v) (BadCheck (at + (f.digits - 1)) (given_digit f v) (wanted_digit f v)) e)

pub fits : (b : Brackets) (at : ℕ) (f : Format) (v : List ℕ) → value_fault b at f v ≡ None → FitsFormat b f v
unfolding value_fault
fits b at f v e =
    let first = none_both (character_fault b at v) (option_or (length_fault at f v) (option_or (numeric_fault at f v) (rule_fault at f v f.rule))) e in
    let second = none_both (length_fault at f v) (option_or (numeric_fault at f v) (rule_fault at f v f.rule)) first.1 in
    let third = none_both (numeric_fault at f v) (rule_fault at f v f.rule) second.1 in
    record {
      characters = none_place at (position (is_outside b) v) first.0;
      long = none_if (length_fits f v) (BadLength at) second.0;
      numeric = none_place at (position is_no_digit (take f.digits v)) third.0;
      date = by_date at f v f.rule third.1;
      check = by_check at f v f.rule third.1;
    }

-- and back
rule_none : (at : ℕ) (f : Format) (v : List ℕ) (r : Rule) → (r ≡ rule.Date → is_date v ≡ true) → (r ≡ rule.Check → given_digit f v ≡ wanted_digit f v) → rule_fault at f v r ≡ None
rule_none at f v rule.Plain d c = refl
rule_none at f v rule.Date d c = ap (λ t. if t then None else Some (BadDate at)) (d refl)
rule_none at f v rule.Check d c = ap (λ t. if t then None else Some (BadCheck (at + (f.digits - 1)) (given_digit f v) (wanted_digit f v))) (eq-eqb (given_digit f v) (wanted_digit f v) (c refl))

pub no_fault : (b : Brackets) (at : ℕ) (f : Format) (v : List ℕ) → FitsFormat b f v → value_fault b at f v ≡ None
unfolding value_fault
no_fault b at f v is =
    ap (λ o. option_or (character_fault_at at o) (option_or (length_fault at f v) (option_or (numeric_fault at f v) (rule_fault at f v f.rule)))) is.characters
    ∙ ap (λ t. option_or (if t then None else Some (BadLength at)) (option_or (numeric_fault at f v) (rule_fault at f v f.rule))) is.long
    ∙ ap (λ o. option_or (character_fault_at at o) (rule_fault at f v f.rule)) is.numeric
    ∙ rule_none at f v f.rule is.date is.check

-- the whole section
known : (b : Brackets) (at size : ℕ) (o : Option Format) (v : List ℕ) → identified_fault b at o size v ≡ None → (f : Format) × (o ≡ Some f) × FitsFormat b f v
known b at size None v e = cc
known b at size (Some f) v e = (f, refl, fits b (at + 2 + size) f v e)

closed : (t : Bool) (o : Option Gs1Fault) (f : Gs1Fault) → (if t then o else Some f) ≡ None → (t ≡ true) × (o ≡ None)
closed true o f e = (refl, e)
closed false o f e = cc

no_close : (b : Brackets) → zero ≡ closing_bracket b → ⊥
no_close Square e = cc
no_close Round e = cc

close_there : (b : Brackets) (rest : List ℕ) (k : ℕ) → get_or rest k 0 ≡ closing_bracket b → k < length rest
close_there b rest k e = elim (cases_lt k (length rest)) [ inl below ↦ below | inr past ↦ absurd (no_close b (sym (get_or_past rest k 0 past) ∙ e)) ]

pub string_there : (b : Brackets) (at : ℕ) (rest : List ℕ) → section_fault b at rest ≡ None → IsElementString b (section_string rest) × (rest ≡ section_of b (section_string rest))
unfolding section_fault sized_fault section_string
string_there b at rest e =
    let size : ℕ = position_or_len is_no_digit rest in
    let parts = closed (get_or rest (position_or_len is_no_digit rest) 0 == closing_bracket b)
    (identified_fault b at (identifier_format (take (position_or_len is_no_digit rest) rest)) (position_or_len is_no_digit rest) (drop (position_or_len is_no_digit rest + 1) rest)) (BadBracket (at + 1 + position_or_len is_no_digit rest)) e in
    let is_close = eqb-true (get_or rest (position_or_len is_no_digit rest) 0) (closing_bracket b) parts.0 in
    let k = known b at (position_or_len is_no_digit rest) (identifier_format (take (position_or_len is_no_digit rest) rest)) (drop (position_or_len is_no_digit rest + 1) rest) parts.1 in
    let within = close_there b rest (position_or_len is_no_digit rest) is_close in (
      record { format = k.0; known = k.1; fits = k.2 },
      sym (take-append-drop (position_or_len is_no_digit rest) rest)
          ∙ ap (λ t. take (position_or_len is_no_digit rest) rest ++ t) (drop-cons rest (position_or_len is_no_digit rest) 0 within
          ∙ ap (λ c. c ∷ drop (suc (position_or_len is_no_digit rest)) rest) is_close
          ∙ ap (λ n. closing_bracket b ∷ drop n rest) (sym (add-one (position_or_len is_no_digit rest)))),
    )

-- the section of an element string
digit_is : (d : ℕ) → nat_lt (digit_value d) 10 ≡ true → is_ascii_digit d ≡ true
digit_is d small = grind (arith, nat_tests)

digits_counted : (b : Brackets) (ds : List ℕ) (v : List ℕ) → all_digits ds ≡ true → position_or_len is_no_digit (ds ++ closing_bracket b ∷ v) ≡ length ds
digits_counted Square [] v all = refl
digits_counted Round [] v all = refl
digits_counted b (d ∷ ds) v all =
    let parts = and_parts (nat_lt (digit_value d) 10) (all_digits ds) all in
    let is : is_ascii_digit d ≡ true = digit_is d parts.0 in
    let more = digits_counted b ds v parts.1 in
    ap (λ t. cond (not (not t)) (1 + position_or_len is_no_digit (ds ++ closing_bracket b ∷ v)) 0) is ∙ ap (λ n. 1 + n) more ∙ omega arith

are_read : (ds : List ℕ) (n : ℕ) → identifier_number ds ≡ Some n → all_digits ds ≡ true
unfolding identifier_number
are_read ds n e = elim (all_digits ds) as (λ t. (if t then Some (digits_value 10 ds) else None) ≡ Some n → t ≡ true) [ true ↦ λ _. refl | false ↦ λ impossible. cc ] e

are_known : (size : ℕ) (ds : List ℕ) (o : Option ℕ) (f : Format) → identifier_number ds ≡ o → format_by_number size o ≡ Some f → all_digits ds ≡ true
are_known size ds None f is e = cc
are_known size ds (Some n) f is e = are_read ds n is

pub known_digits : (ds : List ℕ) (f : Format) → identifier_format ds ≡ Some f → all_digits ds ≡ true
unfolding identifier_format
known_digits ds f e =
    elim (nat_lt 4 (length ds)) as (λ t. (if t then None else format_by_number (length ds) (identifier_number ds)) ≡ Some f → all_digits ds ≡ true) [
      | true ↦ λ impossible. cc
      | false ↦ λ known. are_known (length ds) ds (identifier_number ds) f refl known
    ] e

string_size : (b : Brackets) (i : ElementString) → IsElementString b i → position_or_len is_no_digit (section_of b i) ≡ length i.identifier
string_size b i is = digits_counted b i.identifier i.value (known_digits i.identifier is.format is.known)

value_after : (xs : List ℕ) (c : ℕ) (v : List ℕ) → drop (length xs + 1) (xs ++ c ∷ v) ≡ v
value_after xs c v = drop-append-add xs (c ∷ v) 1

pub string_again : (b : Brackets) (i : ElementString) → IsElementString b i → section_string (section_of b i) ≡ i
unfolding section_string
string_again b i is =
    let size = string_size b i is in
    let make : List ℕ → List ℕ → ElementString = λ x y. record { identifier = x; value = y } in
    ap (λ n. make (take n (section_of b i)) (drop (n + 1) (section_of b i))) size
    ∙ ap (λ x. make x (drop (length i.identifier + 1) (section_of b i))) (take-append_seam i.identifier (closing_bracket b ∷ i.value))
    ∙ ap (make i.identifier) (value_after i.identifier (closing_bracket b) i.value)

sized_none : (b : Brackets) (at : ℕ) (i : ElementString) → IsElementString b i → sized_fault b at (section_of b i) (length i.identifier) ≡ None
unfolding sized_fault
sized_none b at i is =
    ap (λ t. if t then identified_fault b at (identifier_format (take (length i.identifier) (section_of b i))) (length i.identifier) (drop (length i.identifier + 1) (section_of b i)) else Some (BadBracket (at + 1 + length i.identifier)))
    (eq-eqb (get_or (section_of b i) (length i.identifier) 0) (closing_bracket b) (get_or-append_seam i.identifier (closing_bracket b) i.value 0))
    ∙ ap (λ x. identified_fault b at (identifier_format x) (length i.identifier) (drop (length i.identifier + 1) (section_of b i))) (take-append_seam i.identifier (closing_bracket b ∷ i.value))
    ∙ ap (λ o. identified_fault b at o (length i.identifier) (drop (length i.identifier + 1) (section_of b i))) is.known
    ∙ ap (value_fault b (at + 2 + length i.identifier) is.format) (value_after i.identifier (closing_bracket b) i.value)
    ∙ no_fault b (at + 2 + length i.identifier) is.format i.value is.fits

pub string_sound : (b : Brackets) (at : ℕ) (i : ElementString) → IsElementString b i → section_fault b at (section_of b i) ≡ None
unfolding section_fault
string_sound b at i is = ap (sized_fault b at (section_of b i)) (string_size b i is) ∙ sized_none b at i is

-- no opening bracket is in the section of an element string
abbrev pub is_clean : ℕ → List ℕ → Bool
is_clean m xs = list_all (λ c. not (c == m)) xs

digit_clean : (b : Brackets) (d : ℕ) → nat_lt (digit_value d) 10 ≡ true → not (d == opening_bracket b) ≡ true
digit_clean Square d small = grind (arith, nat_tests)
digit_clean Round d small = grind (arith, nat_tests)

digits_clean : (b : Brackets) (ds : List ℕ) → all_digits ds ≡ true → is_clean (opening_bracket b) ds ≡ true
digits_clean b [] all = refl
digits_clean b (d ∷ ds) all =
    let parts = and_parts (nat_lt (digit_value d) 10) (all_digits ds) all in
    ap (λ t. t && is_clean (opening_bracket b) ds) (digit_clean b d parts.0) ∙ digits_clean b ds parts.1

close_clean : (b : Brackets) → not (closing_bracket b == opening_bracket b) ≡ true
close_clean Square = refl
close_clean Round = refl

second_fails : (x y z : Bool) → not (x || y || z) ≡ true → not y ≡ true
second_fails true y z e = cc
second_fails false true z e = cc
second_fails false false z e = refl

inside_clean : (b : Brackets) (c : ℕ) → not (is_outside b c) ≡ true → not (c == opening_bracket b) ≡ true
unfolding is_outside
inside_clean b c inside = second_fails (not (is_in_set_82 c)) (c == opening_bracket b) (c == closing_bracket b) inside

value_clean : (b : Brackets) (v : List ℕ) → position (is_outside b) v ≡ None → is_clean (opening_bracket b) v ≡ true
value_clean b v none = list_all-weaker (λ c. not (is_outside b c)) (λ c. not (c == opening_bracket b)) (inside_clean b) v (position-none (is_outside b) v none)

pub string_clean : (b : Brackets) (i : ElementString) → IsElementString b i → is_clean (opening_bracket b) (section_of b i) ≡ true
string_clean b i is =
    list_all-append (λ c. not (c == opening_bracket b)) i.identifier (closing_bracket b ∷ i.value)
    ∙ ap (λ t. t && (not (closing_bracket b == opening_bracket b) && is_clean (opening_bracket b) i.value)) (digits_clean b i.identifier (known_digits i.identifier is.format is.known))
    ∙ ap (λ t. t && is_clean (opening_bracket b) i.value) (close_clean b)
    ∙ value_clean b i.value is.fits.characters

some_same : (f g : Format) → Some f ≡ Some g → f ≡ g
some_same f g e = cc

-- an identifier and a value
pub is_string : (b : Brackets) (identifier value : List ℕ) (f : Format) → identifier_format identifier ≡ Some f → value_fault b 0 f value ≡ None → IsElementString b (record { identifier = identifier; value = value })
is_string b identifier value f known none = record { format = f; known = known; fits = fits b 0 f value none }

pub is_no_string : (b : Brackets) (identifier value : List ℕ) (f : Format) (e : Gs1Fault) → identifier_format identifier ≡ Some f → value_fault b 0 f value ≡ Some e
    → IsElementString b (record { identifier = identifier; value = value }) → ⊥
is_no_string b identifier value f e known found is =
    let same : is.format ≡ f = some_same is.format f (sym is.known ∙ known) in
    let none = no_fault b 0 is.format value is.fits in
    let other : value_fault b 0 is.format value ≡ Some e = ap (λ g. value_fault b 0 g value) same ∙ found in
    cc

pub is_unknown : (b : Brackets) (identifier value : List ℕ) → identifier_format identifier ≡ None → IsElementString b (record { identifier = identifier; value = value }) → ⊥
is_unknown b identifier value none is = let known = is.known in cc
