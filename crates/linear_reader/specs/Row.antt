-- The row: its core, and the patterns between start and end.
use Rattle.std.specs.Prelude.{ℕ, Bool, false, ◌+◌, ◌/◌, ◌%◌, ◌==◌, nat_le, List, [], ◌∷◌, ◌++◌, length, drop, reverse, Option, Some, None, Result, Ok, Err, zero, suc, if◌then◌else◌}
use Rattle.std.specs.List.{flat_map}
use Rattle.bar_base.specs.Bits.{number_after}
use Rattle.bar_base.specs.Results.{◌>>=◌}
use Rattle.linear_reader.specs.declared.symbology.RowSymbology.{RowSymbology}
use Rattle.linear_reader.specs.declared.symbology.RowSymbology.TheVariants.{Code39, Code39Full, Code93, Code128, Itf14}
use Rattle.linear_reader.specs.declared.scan.ScanFault.{ScanFault}
use Rattle.linear_reader.specs.declared.scan.ScanFault.TheVariants.{BadPattern}
use Rattle.linear_reader.specs.Patterns.{start_modules, value_in_front, pattern_modules, end_modules, end_pattern}

-- Modules without the light ones in front.
unfoldable pub from_dark : (modules : List Bool) → List Bool
from_dark [] = []
from_dark (dark ∷ modules) = if dark then dark ∷ modules else from_dark modules

-- The core of a row is the row without the light modules at its ends.
unfoldable pub core : (modules : List Bool) → List Bool
core modules = reverse (from_dark (reverse (from_dark modules)))

-- The fewest patterns between start and end: the check of Code 128, the checks of Code 93, seven pairs of digits in ITF-14.
unfoldable pub least_patterns : RowSymbology → ℕ
least_patterns Code39 = 0
least_patterns Code39Full = 0
least_patterns Code93 = 2
least_patterns Code128 = 1
least_patterns Itf14 = 7

-- The most patterns: seven in ITF-14, elsewhere no more than there are modules.
unfoldable pub most_patterns : RowSymbology → (modules : List Bool) → ℕ
most_patterns Code39 modules = length modules
most_patterns Code39Full modules = length modules
most_patterns Code93 modules = length modules
most_patterns Code128 modules = length modules
most_patterns Itf14 modules = 7

-- Whether modules are an end, and no more.
unfoldable pub is_end : RowSymbology → (modules : List Bool) → Bool
is_end symbology modules = if length modules == end_modules symbology then number_after 0 modules == end_pattern symbology else false

-- An end is a proper one where enough patterns were before it.
unfoldable pub is_proper_end : RowSymbology → (done : ℕ) → (modules : List Bool) → Bool
is_proper_end symbology done modules = if nat_le (least_patterns symbology) done then is_end symbology modules else false

-- Values in front of others.
abbrev pub values_and_more : (front : List ℕ) → (more : Result (List ℕ) ScanFault) → Result (List ℕ) ScanFault
values_and_more front more = do
  values ← more
  Ok (front ++ values)

-- A value in front of others; where no pattern stands, the place is refused.
abbrev pub value_and_more : Option ℕ → (place : ℕ) → (more : Result (List ℕ) ScanFault) → Result (List ℕ) ScanFault
value_and_more None place more = Err (BadPattern place)
value_and_more (Some value) place more = values_and_more (value ∷ []) more

-- The values of the modules from a place on, after some values, with so many patterns left: none where just an end is left that is proper
-- there, else that of the pattern in front and those behind it. Refused is the first place where neither stands.
unfoldable pub values_from : RowSymbology → (left done place : ℕ) → (modules : List Bool) → Result (List ℕ) ScanFault
values_from symbology zero done place modules = if is_proper_end symbology done modules then Ok [] else Err (BadPattern place)
values_from symbology (suc left) done place modules =
    if is_proper_end symbology done modules then Ok []
    else value_and_more (value_in_front symbology modules) place
    (values_from symbology left (done + 1) (place + pattern_modules symbology) (drop (pattern_modules symbology) modules))

-- The values of the patterns between start and end.
unfoldable pub pattern_values : RowSymbology → (modules : List Bool) → Result (List ℕ) ScanFault
pattern_values symbology modules =
    values_from symbology (most_patterns symbology modules) 0 (start_modules symbology) (drop (start_modules symbology) modules)

-- The two digits of a pattern of ITF-14.
abbrev pub two_digits : (value : ℕ) → List ℕ
two_digits value = value / 10 ∷ value % 10 ∷ []

-- The list of values: in Code 128 the start value is the first, in ITF-14 each pattern has two.
unfoldable pub listed_values : RowSymbology → (start : ℕ) → (values : List ℕ) → List ℕ
listed_values Code39 start values = values
listed_values Code39Full start values = values
listed_values Code93 start values = values
listed_values Code128 start values = start ∷ values
listed_values Itf14 start values = flat_map two_digits values

-- The list of values of modules that begin with a start.
unfoldable pub row_values : RowSymbology → (start : ℕ) → (modules : List Bool) → Result (List ℕ) ScanFault
row_values symbology start modules = do
  values ← pattern_values symbology modules
  Ok (listed_values symbology start values)

-- Every value in the list is below it.
unfoldable pub value_bound : RowSymbology → ℕ
value_bound Code39 = 43
value_bound Code39Full = 43
value_bound Code93 = 47
value_bound Code128 = 106
value_bound Itf14 = 10
