-- What holds of each row of the table, by a test that computes over all of them.
use Rattle.std.proofs.Common.{◌≡◌, ℕ, ◌-◌, ◌/◌, ◌%◌, ◌<◌, ◌≤◌, ◌∙◌, ◌==◌, ◌&&◌, ◌||◌, List, [], ◌∷◌, Bool, true, false, cond, not, nat_le, nat_lt, if◌then◌else◌, Option, Some, None, length, ap, subst, refl, arith}
use Rattle.std.specs.Option.{option_map}
use Rattle.std.specs.Char.{digit_value}
use Rattle.std.specs.List.{find, list_all}
use Rattle.std.specs.Str.Parse.{digits_value}
use Rattle.std.proofs.lemmas.Bool.{agree_below, agree_below_at, and_parts, eqb-true, leb-true, le-leb}
use Rattle.std.proofs.lemmas.Bool.Decides.{nat_tests}
use Rattle.gs1_check.specs.Identifiers.{all_digits, numbered_format, identifier_format, has_identifier, identifier_number, format_by_number, is_predefined, identifier_size, two_digits}
use Rattle.gs1_check.specs.declared.identifiers.Format.{Format}
use Rattle.gs1_check.specs.declared.identifiers.Row.{Row}
use Rattle.gs1_check.specs.declared.identifiers.TheConstants.{ROWS}

-- what the digits after the first two are worth
abbrev scale : ℕ → ℕ
scale size = if size == 3 then 10 else (if size == 4 then 100 else 1)

-- an identifier of the row that begins with these two digits has the row's length by them, and where it is of predefined length the row has one
abbrev begun : Row → ℕ → Bool
begun row lead = not (nat_le (row.first / scale row.length) lead && nat_le lead (row.last / scale row.length))
    || ((identifier_size lead == row.length) && (not (is_predefined lead) || (row.format.least == row.format.most)))

abbrev row_test : Row → Bool
row_test row = (nat_le 2 row.length && nat_le row.length 4) && agree_below (begun row) (λ lead. true) 100

rows_tested : list_all row_test ROWS ≡ true
unfolding identifier_size
rows_tested = refl

found_row : (p q : Row → Bool) (rows : List Row) (f : Format) → list_all q rows ≡ true → option_map (λ row. row.format) (find p rows) ≡ Some f
    → (row : Row) × (p row ≡ true) × (q row ≡ true) × (row.format ≡ f)
found_row p q [] f all e = cc
found_row p q (row ∷ rows) f all e =
    let parts = and_parts (q row) (list_all q rows) all in
    elim (p row) as (λ t. p row ≡ t → option_map (λ r. r.format) (cond t (Some row) (find p rows)) ≡ Some f → (r : Row) × (p r ≡ true) × (q r ≡ true) × (r.format ≡ f)) [
      | true ↦ λ is found. (row, is, parts.0, let h : Some row.format ≡ Some f = found in cc)
      | false ↦ λ is found. found_row p q rows f parts.1 found
    ] refl e

-- what a row says of a number that it has
pub record Led (size lead : ℕ) (f : Format) : Type 0 where
  pub size_is : identifier_size lead ≡ size
  pub one_length : is_predefined lead ≡ true → f.least ≡ f.most

scale_below : (size a b : ℕ) → a ≤ b → a / scale size ≤ b / scale size
scale_below size a b h =
    elim (size == 3) as (λ t. a / (if t then 10 else (if size == 4 then 100 else 1)) ≤ b / (if t then 10 else (if size == 4 then 100 else 1))) [
      | true ↦ omega arith
      | false ↦ elim (size == 4) as (λ t. a / (if t then 100 else 1) ≤ b / (if t then 100 else 1)) [ true ↦ omega arith | false ↦ omega arith ]
    ]

or_not : (x y : Bool) → x ≡ true → (not x || y) ≡ true → y ≡ true
or_not true y is e = e
or_not false y is e = cc

both : (x y : Bool) → x ≡ true → y ≡ true → (x && y) ≡ true
both x y a b = ap (λ t. t && y) a ∙ b

led_of : (row : Row) (size n lead : ℕ) → has_identifier size n row ≡ true → agree_below (begun row) (λ k. true) 100 ≡ true → lead < 100 → n / scale size ≡ lead → Led size lead row.format
led_of row size n lead is tested small leads =
    let front = and_parts ((row.length == size) && nat_le row.first n && nat_le n row.last) (nat_le (n % 10) row.last_digit) is in
    let middle = and_parts ((row.length == size) && nat_le row.first n) (nat_le n row.last) front.0 in
    let first = and_parts (row.length == size) (nat_le row.first n) middle.0 in
    let same : row.length ≡ size = eqb-true row.length size first.0 in
    let here : n / scale row.length ≡ lead = ap (λ k. n / scale k) same ∙ leads in
    let low : row.first / scale row.length ≤ n / scale row.length = scale_below row.length row.first n (leb-true row.first n first.1) in
    let high : n / scale row.length ≤ row.last / scale row.length = scale_below row.length n row.last (leb-true n row.last middle.1) in
    let inside = both (nat_le (row.first / scale row.length) lead) (nat_le lead (row.last / scale row.length))
    (le-leb (row.first / scale row.length) lead (subst (λ k. row.first / scale row.length ≤ k) here low)) (le-leb lead (row.last / scale row.length) (subst (λ k. k ≤ row.last / scale row.length) here high)) in
    let holds = or_not (nat_le (row.first / scale row.length) lead && nat_le lead (row.last / scale row.length))
    ((identifier_size lead == row.length) && (not (is_predefined lead) || (row.format.least == row.format.most))) inside (agree_below_at (begun row) (λ k. true) 100 lead tested small) in
    let parts = and_parts (identifier_size lead == row.length) (not (is_predefined lead) || (row.format.least == row.format.most)) holds in
    record {
      size_is = eqb-true (identifier_size lead) row.length parts.0 ∙ same;
      one_length = λ p. eqb-true row.format.least row.format.most (or_not (is_predefined lead) (row.format.least == row.format.most) p parts.1);
    }

value_is : (d : ℕ) → nat_lt (digit_value d) 10 ≡ true → digit_value d ≡ d - 48
value_is d small = grind (arith, nat_tests)

within : (d : ℕ) → nat_lt (digit_value d) 10 ≡ true → d - 48 < 10
within d small = grind (arith, nat_tests)

digit_is_value : (d : ℕ) → nat_lt (digit_value d) 10 ≡ true → (digit_value d ≡ d - 48) × (d - 48 < 10)
digit_is_value d small = (value_is d small, within d small)

lead_there : (ds : List ℕ) → all_digits ds ≡ true → 2 ≤ length ds → length ds ≤ 4 → (digits_value 10 ds / scale (length ds) ≡ two_digits ds 0) × (two_digits ds 0 < 100)
lead_there [] all some few = absurd (omega arith)
lead_there (a ∷ []) all some few = absurd (omega arith)
lead_there (a ∷ b ∷ []) all some few =
    let one = and_parts (nat_lt (digit_value a) 10) (all_digits (b ∷ [])) all in
    let two = and_parts (nat_lt (digit_value b) 10) true one.1 in
    let fa = digit_is_value a one.0 in
    let fb = digit_is_value b two.0 in
    (omega arith, omega arith)
lead_there (a ∷ b ∷ c ∷ []) all some few =
    let one = and_parts (nat_lt (digit_value a) 10) (all_digits (b ∷ c ∷ [])) all in
    let two = and_parts (nat_lt (digit_value b) 10) (all_digits (c ∷ [])) one.1 in
    let three = and_parts (nat_lt (digit_value c) 10) true two.1 in
    let fa = digit_is_value a one.0 in
    let fb = digit_is_value b two.0 in
    let fc = digit_is_value c three.0 in
    (omega arith, omega arith)
lead_there (a ∷ b ∷ c ∷ d ∷ []) all some few =
    let one = and_parts (nat_lt (digit_value a) 10) (all_digits (b ∷ c ∷ d ∷ [])) all in
    let two = and_parts (nat_lt (digit_value b) 10) (all_digits (c ∷ d ∷ [])) one.1 in
    let three = and_parts (nat_lt (digit_value c) 10) (all_digits (d ∷ [])) two.1 in
    let four = and_parts (nat_lt (digit_value d) 10) true three.1 in
    let fa = digit_is_value a one.0 in
    let fb = digit_is_value b two.0 in
    let fc = digit_is_value c three.0 in
    let fd = digit_is_value d four.0 in
    (omega arith, omega arith)
lead_there (a ∷ b ∷ c ∷ d ∷ e ∷ ds) all some few = absurd (omega arith)

row_size : (row : Row) (size n : ℕ) → has_identifier size n row ≡ true → row.length ≡ size
row_size row size n is =
    let front = and_parts ((row.length == size) && nat_le row.first n && nat_le n row.last) (nat_le (n % 10) row.last_digit) is in
    let middle = and_parts ((row.length == size) && nat_le row.first n) (nat_le n row.last) front.0 in
    let first = and_parts (row.length == size) (nat_le row.first n) middle.0 in
    eqb-true row.length size first.0

are_read : (ds : List ℕ) (n : ℕ) → identifier_number ds ≡ Some n → all_digits ds ≡ true
unfolding identifier_number
are_read ds n e = elim (all_digits ds) as (λ t. (if t then Some (digits_value 10 ds) else None) ≡ Some n → t ≡ true) [ true ↦ λ _. refl | false ↦ λ impossible. cc ] e

read_is : (ds : List ℕ) (n : ℕ) → identifier_number ds ≡ Some n → n ≡ digits_value 10 ds
unfolding identifier_number
read_is ds n e = elim (all_digits ds) as (λ t. (if t then Some (digits_value 10 ds) else None) ≡ Some n → n ≡ digits_value 10 ds) [ true ↦ λ h. cc | false ↦ λ impossible. cc ] e

known_row : (ds : List ℕ) (o : Option ℕ) (f : Format) → identifier_number ds ≡ o → length ds ≤ 4 → format_by_number (length ds) o ≡ Some f → Led (length ds) (two_digits ds 0) f
unfolding identifier_number numbered_format
known_row ds None f is few e = cc
known_row ds (Some n) f is few e =
    let row = found_row (has_identifier (length ds) n) row_test ROWS f rows_tested e in
    let all = are_read ds n is in
    let parts = and_parts (nat_le 2 row.0.length && nat_le row.0.length 4) (agree_below (begun row.0) (λ k. true) 100) row.2 in
    let sizes = and_parts (nat_le 2 row.0.length) (nat_le row.0.length 4) parts.0 in
    let same : row.0.length ≡ length ds = row_size row.0 (length ds) n row.1 in
    let low : 2 ≤ row.0.length = leb-true 2 row.0.length sizes.0 in
    let lead = lead_there ds all (omega arith) few in
    subst (λ (g : Format). Led (length ds) (two_digits ds 0) g) row.3 (led_of row.0 (length ds) n (two_digits ds 0) row.1 parts.1 lead.1 (ap (λ k. k / scale (length ds)) (read_is ds n is) ∙ lead.0))

pub known_led : (ds : List ℕ) (f : Format) → identifier_format ds ≡ Some f → Led (length ds) (two_digits ds 0) f
unfolding identifier_format
known_led ds f e =
    elim (nat_lt 4 (length ds)) as (λ t. nat_lt 4 (length ds) ≡ t → (if t then None else format_by_number (length ds) (identifier_number ds)) ≡ Some f → Led (length ds) (two_digits ds 0) f) [
      | true ↦ λ _ impossible. cc
      | false ↦ λ few known. known_row ds (identifier_number ds) f refl (grind (arith, nat_tests)) known
    ] refl e
