-- How the tables of Code 39 and of interleaved 2 of 5 are built (ISO/IEC 16388 and 16390, symbol characters).
use Rattle.std.specs.Prelude.{◌≡◌, ℕ, Bool, ◌+◌, ◌-◌, ◌%◌, ◌==◌, ◌&&◌, nat_lt, nat_le, List, [], ◌∷◌, length, replicate, slice_set, count_by, if◌then◌else◌}
use Rattle.linear_codes.specs.declared.code39_table.TheConstants.{STAR}
use Rattle.linear_codes.specs.Itf14.{digit_elements, is_wide}

-- The sum of the weights of the wide elements.
unfoldable pub wide_sum : (weights elements : List ℕ) → ℕ
wide_sum [] elements = 0
wide_sum (weight ∷ weights) [] = 0
wide_sum (weight ∷ weights) (element ∷ elements) = (if is_wide element then weight else 0) + wide_sum weights elements

-- Two of five elements are wide, and their weights 1, 2, 4, 7 and 0 sum to the digit, 11 standing for 0.
pub record IsTwoOfFive (digit : ℕ) (elements : List ℕ) : Type 0 where
  pub five : length elements ≡ 5
  pub two : count_by is_wide elements ≡ 2
  pub weights : wide_sum (1 ∷ 2 ∷ 4 ∷ 7 ∷ 0 ∷ []) elements ≡ (if digit == 0 then 11 else digit)

-- The values of the characters $ / + % of Code 39.
abbrev pub is_sign : (value : ℕ) → Bool
is_sign value = nat_le 39 value && nat_le value 42

-- Code 39 has the digits 0 to 9, and then three groups of ten characters in the order of the digits 1 to 9 and 0: A to J, K to T, and U to
-- Z with - . space *, the signs $ / + % standing before *.
abbrev pub digit39 : (value : ℕ) → ℕ
digit39 value = if nat_lt value 10 then value else if value == STAR then 0 else (value + 1) % 10

-- The bars of a character of Code 39 are the elements of its digit, but narrow in the four signs.
unfoldable pub bars39 : (value : ℕ) → List ℕ
bars39 value = if is_sign value then replicate 5 1 else digit_elements (digit39 value)

-- One space is wide: the second in the digits, the third and the fourth in the letters from A and from K on, the first in the last group.
-- Three spaces are wide in the four signs, the narrow ones being the last, the third, the second and the first.
abbrev pub wide_space : (value : ℕ) → ℕ
wide_space value = if nat_lt value 10 then 1 else if nat_lt value 20 then 2 else if nat_lt value 30 then 3 else 0

-- The four spaces of a character of Code 39, 2 for a wide one and 1 for a narrow one.
unfoldable pub spaces39 : (value : ℕ) → List ℕ
spaces39 value = if is_sign value then slice_set (replicate 4 2) (42 - value) 1 else slice_set (replicate 4 1) (wide_space value) 2
