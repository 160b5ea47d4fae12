-- What the bench keeps: for each place of the elements and each mode the fewest bits of the rest.
use Rattle.std.specs.Prelude.{◌≡◌, ◌≤◌, ◌+◌, ◌-◌, ◌++◌, ℕ, List, length, drop, replicate, slice_index_or}
use Rattle.bar_base.specs.declared.element.Element.{Element}
use Rattle.aztec_modes.specs.declared.mode.Mode.{Mode}
use Rattle.aztec_modes.specs.declared.mode.Mode.TheVariants.{Upper, Lower, Mixed, Punct, Digit}
use Rattle.aztec_best.specs.Front.{bytes_ahead}
use Rattle.aztec_best.specs.declared.costs.Costs.{Costs}
use Rattle.aztec_best.specs.declared.limit.TheConstants.{MOST_ELEMENTS}
use Rattle.aztec_best.specs.Shortest.{IsLeast}

-- The cost kept for a mode.
unfoldable pub mode_cost : Costs → Mode → ℕ
mode_cost costs Upper = costs.upper
mode_cost costs Lower = costs.lower
mode_cost costs Mixed = costs.mixed
mode_cost costs Punct = costs.punct
mode_cost costs Digit = costs.digit

-- No costs: what a place past the table has.
abbrev pub no_costs : Costs
no_costs = record { upper = 0; lower = 0; mixed = 0; punct = 0; digit = 0; bytes = 0 }

-- The cost kept for a place and a mode.
unfoldable pub kept_cost : List Costs → (place : ℕ) → Mode → ℕ
kept_cost table place mode = mode_cost (slice_index_or table place no_costs) mode

-- How many bytes are kept for a place.
unfoldable pub kept_bytes : List Costs → (place : ℕ) → ℕ
kept_bytes table place = (slice_index_or table place no_costs).bytes

-- From a place on, the table has the fewest bits of every rest of the elements from every mode, and the number of bytes in front.
pub record IsFilledFrom (table : List Costs) (elements : List Element) (from : ℕ) : Type 0 where
  pub fits : length elements ≤ MOST_ELEMENTS
  pub least : (place : ℕ) (mode : Mode) → from ≤ place → place ≤ length elements → IsLeast mode (drop place elements) (kept_cost table place mode)
  pub counted : (place : ℕ) → from ≤ place → place ≤ length elements → kept_bytes table place ≡ bytes_ahead (drop place elements)

-- The bench has a place before each of the most elements and after the last, and is filled for the elements.
abbrev pub IsFilled : (table : List Costs) (elements : List Element) → Type 0
IsFilled table elements = (length table ≡ MOST_ELEMENTS + 1) × IsFilledFrom table elements 0

-- A table of which the front is kept, and no costs for each later place.
unfoldable pub padded : List Costs → List Costs
padded rows = rows ++ replicate (MOST_ELEMENTS + 1 - length rows) no_costs
