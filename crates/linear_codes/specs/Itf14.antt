-- ITF-14: interleaved 2 of 5 (ISO/IEC 16390) of fourteen digits, the last of which is a check digit (GS1 General Specifications).
use Rattle.std.specs.Prelude.{ℕ, Bool, true, ◌-◌, ◌==◌, ◌&&◌, List, [], ◌∷◌, ◌++◌, length, take, map, replicate, slice_index, slice_index_or, nat_le, Result, Ok, Err, if◌then◌else◌}
use Rattle.bar_base.specs.Bits.{number_after}
use Rattle.bar_base.specs.CheckDigit.{check_digit}
use Rattle.bar_base.specs.Stripes.{row_picture, stripes}
use Rattle.bar_base.specs.Results.{◌>>=◌}
use Rattle.bar_base.specs.Text.{values_of_text}
use Rattle.bar_base.specs.declared.linear.Linear.{Linear}
use Rattle.bar_base.specs.declared.linear.LinearFault.{LinearFault}
use Rattle.bar_base.specs.declared.linear.LinearFault.TheVariants.{BadCheck}
use Rattle.linear_codes.specs.declared.itf14_table.TheConstants.{ELEMENTS, START, STOP}
use Rattle.linear_codes.specs.declared.itf14_symbol.TheConstants.{ITF14_MOST_DIGITS}

-- The five elements of a digit.
unfoldable pub digit_elements : (digit : ℕ) → List ℕ
digit_elements digit = slice_index_or ELEMENTS digit []

-- whether an element is wide
abbrev pub is_wide : (element : ℕ) → Bool
is_wide element = element == 2

-- A digit's elements as a number, wide as 1.
unfoldable pub pattern_itf_of : (digit : ℕ) → ℕ
pattern_itf_of digit = number_after 0 (map is_wide (digit_elements digit))

-- A narrow element is 1 module wide, a wide one 3.
abbrev pub element_width : (element : ℕ) → ℕ
element_width element = if is_wide element then 3 else 1

-- Two lists in turn: each bar and the space behind it.
unfoldable pub in_turn : (bars spaces : List ℕ) → List ℕ
in_turn [] spaces = []
in_turn (bar ∷ bars) [] = bar ∷ bars
in_turn (bar ∷ bars) (space ∷ spaces) = bar ∷ space ∷ in_turn bars spaces

-- The modules of a pair of digits as a number, dark as 1.
unfoldable pub pair_pattern_of : (first second : ℕ) → ℕ
pair_pattern_of first second = number_after 0 (stripes true (map element_width (in_turn (digit_elements first) (digit_elements second))))

-- The elements of pairs of digits, the first digit of each in its bars, the second in its spaces.
unfoldable pub digit_pairs : (digits : List ℕ) → List ℕ
digit_pairs [] = []
digit_pairs (first ∷ []) = []
digit_pairs (first ∷ second ∷ digits) = in_turn (digit_elements first) (digit_elements second) ++ digit_pairs digits

-- A symbol's widths: the start, the pairs, the stop.
unfoldable pub symbol_widths14 : (digits : List ℕ) → List ℕ
symbol_widths14 digits = map element_width (START ++ digit_pairs digits ++ STOP)

-- The symbol of thirteen digits and their check digit.
unfoldable pub symbol14 : (digits : List ℕ) → Linear
symbol14 digits = record { grid = row_picture (symbol_widths14 (digits ++ check_digit digits ∷ [])); checks = check_digit digits ∷ [] }

-- Fewer digits than thirteen are filled with zeros on the left.
abbrev pub filled_to_thirteen : (digits : List ℕ) → List ℕ
filled_to_thirteen digits = replicate (13 - length digits) 0 ++ digits

-- A fourteenth digit must be the check digit.
abbrev pub checked : (digits : List ℕ) → (given : ℕ) → Result (List ℕ) LinearFault
checked digits given = if given == check_digit digits then Ok digits else Err (BadCheck 13 given (check_digit digits))

-- The digits in front of the check digit: the first 13 of 14, the last being checked, and else the digits filled with zeros on the left.
unfoldable pub thirteen : (digits : List ℕ) → Result (List ℕ) LinearFault
thirteen digits = if length digits == 14 then checked (take 13 digits) (slice_index digits 13) else Ok (filled_to_thirteen digits)

-- The value of a digit is its number.
unfoldable pub digit_values : (byte : ℕ) → List ℕ
digit_values byte = if nat_le 48 byte && nat_le byte 57 then (byte - 48) ∷ [] else []

-- A text of at most 14 digits is drawn.
unfoldable pub itf14_of : (text : List ℕ) → Result Linear LinearFault
itf14_of text = do
  digits ← values_of_text digit_values ITF14_MOST_DIGITS text
  front ← thirteen digits
  Ok (symbol14 front)
