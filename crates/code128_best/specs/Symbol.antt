-- The symbol of Code 128 (ISO/IEC 15417, Symbol structure and Symbol check character).
use Rattle.std.specs.Prelude.{◌≡◌, ℕ, true, ◌+◌, ◌*◌, ◌%◌, List, [], ◌∷◌, ◌++◌, length, sum, slice_index_or}
use Rattle.std.specs.List.{flat_map}
use Rattle.bar_base.specs.Bits.{number_after}
use Rattle.bar_base.specs.Stripes.{stripes}
use Rattle.code128_best.specs.declared.widths.TheConstants.{WIDTHS, STOP}

-- The sum of values, each by its place.
unfoldable pub place_weighted : (place : ℕ) → List ℕ → ℕ
place_weighted place [] = 0
place_weighted place (value ∷ values) = place * value + place_weighted (place + 1) values

-- The check value of a start and the values after it.
unfoldable pub check128 : List ℕ → ℕ
check128 [] = 0
check128 (start ∷ values) = (start + place_weighted 1 values) % 103

-- The widths of a value's bars and spaces, in turn.
unfoldable pub widths128 : (value : ℕ) → List ℕ
widths128 value = slice_index_or WIDTHS value []

-- The modules of a value as a number.
unfoldable pub pattern128 : (value : ℕ) → ℕ
pattern128 value = number_after 0 (stripes true (widths128 value))

-- The sum of the bars' widths.
unfoldable pub bar_modules : (widths : List ℕ) → ℕ
bar_modules [] = 0
bar_modules (bar ∷ []) = bar
bar_modules (bar ∷ space ∷ widths) = bar + bar_modules widths

-- Three bars and three spaces have eleven modules, and the bars an even number of them.
pub record HasCharacterShape (widths : List ℕ) : Type 0 where
  pub six : length widths ≡ 6
  pub eleven : sum widths ≡ 11
  pub even : bar_modules widths % 2 ≡ 0

-- The widths of the stop.
unfoldable pub stop_widths128 : List ℕ
stop_widths128 = STOP

-- A symbol's widths: the values, the check value, the stop.
unfoldable pub symbol_widths128 : List ℕ → List ℕ
symbol_widths128 values = flat_map widths128 (values ++ check128 values ∷ []) ++ stop_widths128
