-- The application identifiers and the values that they take (GS1 General Specifications, application identifier
-- directory).
use Rattle.std.specs.Prelude.{ℕ, ◌+◌, ◌*◌, ◌%◌, ◌==◌, ◌&&◌, ◌||◌, Bool, List, find, length, nat_le, nat_lt, Option, Some, None, if◌then◌else◌, option_map, slice_index}
use Rattle.std.specs.Char.{digit_value}
use Rattle.std.specs.List.{list_all}
use Rattle.std.specs.Str.Parse.{digits_value}
use Rattle.bar_base.specs.CheckDigit.{digit_value as value_of_digit}
use Rattle.gs1_check.specs.declared.identifiers.Format.{Format}
use Rattle.gs1_check.specs.declared.identifiers.Row.{Row}
use Rattle.gs1_check.specs.declared.identifiers.TheConstants.{ROWS}

-- All bytes are digits.
abbrev pub all_digits : List ℕ → Bool
all_digits digits = list_all (λ digit. nat_lt (digit_value digit) 10) digits

-- The number that an identifier's digits write; None where a byte is no digit.
unfoldable pub identifier_number : List ℕ → Option ℕ
identifier_number digits = if all_digits digits then Some (digits_value 10 digits) else None

-- The row has the identifier of so many digits and this number.
abbrev pub has_identifier : ℕ → ℕ → Row → Bool
has_identifier size number row =
    (row.length == size) && nat_le row.first number && nat_le number row.last && nat_le (number % 10) row.last_digit

-- What values the identifier of so many digits and this number takes, by the first row that has it.
unfoldable pub numbered_format : ℕ → ℕ → Option Format
numbered_format size number = option_map (λ row. row.format) (find (has_identifier size number) ROWS)

-- The same, where the digits write a number.
abbrev pub format_by_number : ℕ → Option ℕ → Option Format
format_by_number size None = None
format_by_number size (Some number) = numbered_format size number

-- What values an identifier takes; None where the digits are no identifier.
unfoldable pub identifier_format : List ℕ → Option Format
identifier_format digits =
    if nat_lt 4 (length digits) then None else format_by_number (length digits) (identifier_number digits)

-- The number of the two digits from a place on.
abbrev pub two_digits : List ℕ → ℕ → ℕ
two_digits digits at = value_of_digit (slice_index digits at) * 10 + value_of_digit (slice_index digits (at + 1))

-- Element strings of predefined length: those whose identifiers begin with 00 to 04, 11 to 20, 31 to 36 or 41.
abbrev pub is_predefined : ℕ → Bool
is_predefined lead =
    nat_le lead 4 || (nat_le 11 lead && nat_le lead 20) || (nat_le 31 lead && nat_le lead 36) || (lead == 41)

-- Whether the element strings of an identifier are of predefined length, by its first two digits.
unfoldable pub has_predefined_length : List ℕ → Bool
has_predefined_length identifier = is_predefined (two_digits identifier 0)

-- How many digits an identifier has, by its first two.
unfoldable pub identifier_size : ℕ → ℕ
identifier_size lead =
    if (nat_le 23 lead && nat_le lead 25) || (nat_le 40 lead && nat_le lead 42) then 3
    else (if (nat_le 31 lead && nat_le lead 36) || (lead == 39) || (lead == 70) || (lead == 80) then 4 else 2)
