-- Sums of values by weights, and the check digit of a number (GS1 General Specifications, check digit calculation).
use Rattle.std.specs.Prelude.{ℕ, ◌+◌, ◌-◌, ◌*◌, ◌%◌, ◌==◌, List, [], ◌∷◌, length, if◌then◌else◌}

-- The sum of the values, each times its weight, which follows from the number of values to its right.
unfoldable pub weighted : (weight : ℕ → ℕ) → (values : List ℕ) → ℕ
weighted weight [] = 0
weighted weight (value ∷ values) = weight (length values) * value + weighted weight values

-- From the right the weights of digits are 3, 1, 3 and so on.
abbrev pub three_or_one : (behind : ℕ) → ℕ
three_or_one behind = if behind % 2 == 0 then 3 else 1

-- The check digit brings the weighted sum of the digits to a multiple of 10.
unfoldable pub check_digit : (digits : List ℕ) → ℕ
check_digit digits = (10 - weighted three_or_one digits % 10) % 10

-- The number of a digit's character: its distance from the character 0.
abbrev pub digit_value : (character : ℕ) → ℕ
digit_value character = character - 48
