-- How the symbologies write a row: starts, patterns of values, ends (ISO/IEC 15417, 16388, 16390, symbol structure; AIM Code 93).
use Rattle.std.specs.Prelude.{◌≡◌, ◌||◌, ℕ, Bool, true, ◌+◌, ◌*◌, ◌/◌, ◌%◌, ◌==◌, nat_le, List, length, take, Option, Some, None, zero, suc, if◌then◌else◌}
use Rattle.bar_base.specs.Bits.{number_after}
use Rattle.bar_base.specs.Stripes.{stripes}
use Rattle.code128_best.specs.Symbol.{pattern128, stop_widths128}
use Rattle.linear_codes.specs.Code39.{pattern39_of}
use Rattle.linear_codes.specs.Code93.{pattern93_of}
use Rattle.linear_codes.specs.Itf14.{pair_pattern_of}
use Rattle.linear_reader.specs.declared.symbology.RowSymbology.{RowSymbology}
use Rattle.linear_reader.specs.declared.symbology.RowSymbology.TheVariants.{Code39, Code39Full, Code93, Code128, Itf14}

-- The numbers of the five symbologies.
abbrev pub IsRowSymbol : (symbol : ℕ) → Type 0
IsRowSymbol symbol = (symbol == 8 || (symbol == 9 || (symbol == 20 || (symbol == 25 || symbol == 89)))) ≡ true

-- The symbology of a number: 8 is Code 39, 9 extended Code 39, 20 Code 128, 25 Code 93, 89 ITF-14.
unfoldable pub symbology_of : (symbol : ℕ) → RowSymbology
symbology_of symbol =
    if symbol == 8 then Code39 else if symbol == 9 then Code39Full else if symbol == 20 then Code128 else if symbol == 25 then Code93 else Itf14

-- The number that the first so many modules write, dark as 1; none where there are fewer.
unfoldable pub front_number : (count : ℕ) → (modules : List Bool) → Option ℕ
front_number count modules = if nat_le count (length modules) then Some (number_after 0 (take count modules)) else None

-- What follows from a number, where there is one.
abbrev pub on_number : Option ℕ → (ℕ → Option ℕ) → Option ℕ
on_number None next = None
on_number (Some number) next = next number

-- The first of so many numbers, from one on, that passes a test.
unfoldable pub first_from : (test : ℕ → Bool) → (count from : ℕ) → Option ℕ
first_from test zero from = None
first_from test (suc count) from = if test from then Some from else first_from test count (from + 1)

-- How many modules a start has.
unfoldable pub start_modules : RowSymbology → ℕ
start_modules Code39 = 12
start_modules Code39Full = 12
start_modules Code93 = 9
start_modules Code128 = 11
start_modules Itf14 = 4

-- A value, where a test passes.
abbrev pub value_if : Bool → (value : ℕ) → Option ℕ
value_if test value = if test then Some value else None

-- The value of the start with these modules: `*` of Code 39, the start of Code 93, three starts of Code 128; of ITF-14 four narrow elements.
unfoldable pub start_value : RowSymbology → (number : ℕ) → Option ℕ
start_value Code39 number = value_if (pattern39_of 43 == number) 43
start_value Code39Full number = value_if (pattern39_of 43 == number) 43
start_value Code93 number = value_if (pattern93_of 47 == number) 47
start_value Code128 number =
    if pattern128 103 == number then Some 103 else if pattern128 104 == number then Some 104 else value_if (pattern128 105 == number) 105
start_value Itf14 number = value_if (10 == number) 0

-- The value of the start with which modules begin.
unfoldable pub start_of : RowSymbology → (modules : List Bool) → Option ℕ
start_of symbology modules = on_number (front_number (start_modules symbology) modules) (start_value symbology)

-- How many modules a pattern has; in Code 39 one of them is the light one in front of it. In ITF-14 a pattern is two digits.
unfoldable pub pattern_modules : RowSymbology → ℕ
pattern_modules Code39 = 13
pattern_modules Code39Full = 13
pattern_modules Code93 = 9
pattern_modules Code128 = 11
pattern_modules Itf14 = 18

-- How many patterns there are; the values of two digits are 0 to 99.
unfoldable pub pattern_count : RowSymbology → ℕ
pattern_count Code39 = 43
pattern_count Code39Full = 43
pattern_count Code93 = 47
pattern_count Code128 = 106
pattern_count Itf14 = 100

-- The pattern of a value as a number.
unfoldable pub value_pattern : RowSymbology → (value : ℕ) → ℕ
value_pattern Code39 value = pattern39_of value
value_pattern Code39Full value = pattern39_of value
value_pattern Code93 value = pattern93_of value
value_pattern Code128 value = pattern128 value
value_pattern Itf14 value = pair_pattern_of (value / 10) (value % 10)

-- The value with this pattern.
unfoldable pub value_of : RowSymbology → (number : ℕ) → Option ℕ
value_of symbology number = first_from (λ value. value_pattern symbology value == number) (pattern_count symbology) 0

-- The value of the pattern with which modules begin.
unfoldable pub value_in_front : RowSymbology → (modules : List Bool) → Option ℕ
value_in_front symbology modules = on_number (front_number (pattern_modules symbology) modules) (value_of symbology)

-- How many modules an end has; in Code 39 one of them is the light one in front of it.
unfoldable pub end_modules : RowSymbology → ℕ
end_modules Code39 = 13
end_modules Code39Full = 13
end_modules Code93 = 10
end_modules Code128 = 13
end_modules Itf14 = 5

-- The end as a number: `*` of Code 39, the start of Code 93 and a dark module, the stop of Code 128, 11101 of ITF-14.
unfoldable pub end_pattern : RowSymbology → ℕ
end_pattern Code39 = pattern39_of 43
end_pattern Code39Full = pattern39_of 43
end_pattern Code93 = pattern93_of 47 * 2 + 1
end_pattern Code128 = number_after 0 (stripes true stop_widths128)
end_pattern Itf14 = 29
