-- The structure of the tables, by tests that compute over them.
use Rattle.std.proofs.Common.{◌≡◌, ℕ, ◌<◌, ◌≤◌, Bool, true, false, ◌==◌, ◌&&◌, List, [], ◌∷◌, length, count_by, map, position, unwrap_or, refl, sym, ap, ◌∙◌, arith, if◌then◌else◌}
use Rattle.std.proofs.lemmas.Bool.{agree_below, agree_below_at, eqb-true, and_parts, false≢true}
use Rattle.bar_base.specs.Bits.{number_after}
use Rattle.bar_base.specs.Stripes.{stripes}
use Rattle.linear_codes.specs.declared.code39_table.TheConstants.{WIDTHS as WIDTHS39}
use Rattle.linear_codes.specs.declared.code93_table.TheConstants.{WIDTHS as WIDTHS93}
use Rattle.linear_codes.specs.declared.itf14_table.TheConstants.{ELEMENTS}
use Rattle.linear_codes.specs.Code39 as code39
use Rattle.linear_codes.specs.Code93 as code93
use Rattle.linear_codes.specs.Itf14 as itf
use Rattle.linear_codes.specs.Structure.{IsTwoOfFive, wide_sum, bars39, spaces39}

-- Numbers that are found again at their own places differ.
pub only : (f place : ℕ → ℕ) (count : ℕ) → agree_below (λ k. place (f k) == k) (λ _. true) count ≡ true
    → (value other : ℕ) → value < count → other < count → f other ≡ f value → other ≡ value
only f place count test value other below_value below_other is =
    let at_value = eqb-true (place (f value)) value (agree_below_at (λ k. place (f k) == k) (λ _. true) count value test below_value) in
    let at_other = eqb-true (place (f other)) other (agree_below_at (λ k. place (f k) == k) (λ _. true) count other test below_other) in
    sym at_other ∙ ap place is ∙ at_value

abbrev place_in : (numbers : List ℕ) → ℕ → ℕ
place_in numbers number = unwrap_or (position (λ other. other == number) numbers) 0

-- The patterns of a table.
place39 : ℕ → ℕ
place39 = place_in (map (λ widths. number_after 0 (stripes true widths)) WIDTHS39)

found39 : agree_below (λ k. place39 (code39.pattern39_of k) == k) (λ _. true) 44 ≡ true
unfolding place39 code39.pattern39_of code39.widths39 number_after stripes
found39 = refl

pub only39 : (value other : ℕ) → value ≤ 43 → other ≤ 43 → code39.pattern39_of other ≡ code39.pattern39_of value → other ≡ value
only39 value other small_value small_other is = only code39.pattern39_of place39 44 found39 value other (omega arith) (omega arith) is

place93 : ℕ → ℕ
place93 = place_in (map (λ widths. number_after 0 (stripes true widths)) WIDTHS93)

found93 : agree_below (λ k. place93 (code93.pattern93_of k) == k) (λ _. true) 48 ≡ true
unfolding place93 code93.pattern93_of code93.widths93 number_after stripes
found93 = refl

pub only93 : (value other : ℕ) → value ≤ 47 → other ≤ 47 → code93.pattern93_of other ≡ code93.pattern93_of value → other ≡ value
only93 value other small_value small_other is = only code93.pattern93_of place93 48 found93 value other (omega arith) (omega arith) is

place_itf : ℕ → ℕ
place_itf = place_in (map (λ elements. number_after 0 (map itf.is_wide elements)) ELEMENTS)

found_itf : agree_below (λ k. place_itf (itf.pattern_itf_of k) == k) (λ _. true) 10 ≡ true
unfolding place_itf itf.pattern_itf_of itf.digit_elements number_after
found_itf = refl

pub only_itf : (value other : ℕ) → value ≤ 9 → other ≤ 9 → itf.pattern_itf_of other ≡ itf.pattern_itf_of value → other ≡ value
only_itf value other small_value small_other is = only itf.pattern_itf_of place_itf 10 found_itf value other (omega arith) (omega arith) is

-- Two of five.
abbrev passes : ℕ → Bool
passes digit =
    length (itf.digit_elements digit) == 5
    && (count_by itf.is_wide (itf.digit_elements digit) == 2 && wide_sum (1 ∷ 2 ∷ 4 ∷ 7 ∷ 0 ∷ []) (itf.digit_elements digit) == (if digit == 0 then 11 else digit))

all_pass : agree_below passes (λ _. true) 10 ≡ true
unfolding itf.digit_elements wide_sum
all_pass = refl

pub two_of_five : (digit : ℕ) → digit ≤ 9 → IsTwoOfFive digit (itf.digit_elements digit)
two_of_five digit small =
    let parts = and_parts (length (itf.digit_elements digit) == 5) _ (agree_below_at passes (λ _. true) 10 digit all_pass (omega arith)) in
    let more = and_parts (count_by itf.is_wide (itf.digit_elements digit) == 2) _ parts.1 in
    record {
      five = eqb-true (length (itf.digit_elements digit)) 5 parts.0;
      two = eqb-true (count_by itf.is_wide (itf.digit_elements digit)) 2 more.0;
      weights = eqb-true (wide_sum (1 ∷ 2 ∷ 4 ∷ 7 ∷ 0 ∷ []) (itf.digit_elements digit)) (if digit == 0 then 11 else digit) more.1;
    }

-- The bars of Code 39.
same : List ℕ → List ℕ → Bool
same [] [] = true
same [] (y ∷ ys) = false
same (x ∷ xs) [] = false
same (x ∷ xs) (y ∷ ys) = x == y && same xs ys

is_same : (xs ys : List ℕ) → same xs ys ≡ true → xs ≡ ys
unfolding same
is_same [] [] e = refl
is_same [] (y ∷ ys) e = absurd (false≢true e)
is_same (x ∷ xs) [] e = absurd (false≢true e)
is_same (x ∷ xs) (y ∷ ys) e =
    let parts = and_parts (x == y) (same xs ys) e in
    ap (λ (n : ℕ). n ∷ xs) (eqb-true x y parts.0) ∙ ap (λ (l : List ℕ). y ∷ l) (is_same xs ys parts.1)

built39 : agree_below (λ k. same (code39.widths39 k) (itf.in_turn (bars39 k) (spaces39 k))) (λ _. true) 44 ≡ true
unfolding same code39.widths39 itf.in_turn itf.digit_elements bars39 spaces39
built39 = refl

pub bars_of_digits : (value : ℕ) → value ≤ 43 → code39.widths39 value ≡ itf.in_turn (bars39 value) (spaces39 value)
bars_of_digits value small =
    is_same (code39.widths39 value) (itf.in_turn (bars39 value) (spaces39 value))
    (agree_below_at (λ k. same (code39.widths39 k) (itf.in_turn (bars39 k) (spaces39 k))) (λ _. true) 44 value built39 (omega arith))
