-- The least costs of what follows a run, with 8 bits added for each byte passed.
use Rattle.std.specs.Prelude.{◌≡◌, ◌⊎◌, ◌<◌, ◌≤◌, ◌+◌, ◌-◌, ◌*◌, ℕ, List, length, slice_index_or}
use Rattle.aztec_modes.specs.declared.mode.Mode.{Mode}
use Rattle.aztec_modes.specs.declared.mode.Mode.TheVariants.{Upper, Lower, Mixed}
use Rattle.aztec_best.specs.declared.costs.Costs.{Costs}
use Rattle.aztec_best.specs.declared.lows.Lows.{Lows}
use Rattle.aztec_best.specs.declared.window.Window.{Window}
use Rattle.aztec_best.specs.Bench.{kept_cost}

-- The cost at a place, and 8 bits more for each element before it.
unfoldable pub key : List Costs → Mode → (place : ℕ) → ℕ
key table mode place = kept_cost table place mode + 8 * place

-- A number that is the least key of the places from `low` on and before `high`, or at least 2 to the power 30.
pub record IsLow (table : List Costs) (mode : Mode) (low high number : ℕ) : Type 0 where
  pub bound : (place : ℕ) → low ≤ place → place < high → number ≤ key table mode place
  pub reached : ((place : ℕ) × (low ≤ place) × (place < high) × (number ≡ key table mode place)) ⊎ (1073741824 ≤ number)

-- Such numbers for each mode that has runs.
pub record AreLows (table : List Costs) (low high : ℕ) (lows : Lows) : Type 0 where
  pub upper : IsLow table Upper low high lows.upper
  pub lower : IsLow table Lower low high lows.lower
  pub mixed : IsLow table Mixed low high lows.mixed

-- What is kept for a place.
unfoldable pub lows_at : List Lows → (place : ℕ) → Lows
lows_at stored place = slice_index_or stored place (record { upper = 0; lower = 0; mixed = 0 })

-- Each place from `low` to `top` has the least keys from `low` up to it, kept in their order.
abbrev pub ArePrefixes : List Costs → List Lows → (low top : ℕ) → Type 0
ArePrefixes table stored low top = (place : ℕ) → low ≤ place → place ≤ top → AreLows table low (place + 1) (lows_at stored (place - low))

-- The window holds the places from `low` to `top`.
pub record IsWindow (table : List Costs) (stored : List Lows) (low top : ℕ) (window : Window) : Type 0 where
  pub after : low ≤ window.split
  pub recent : AreLows table low window.split window.recent
  pub kept : ArePrefixes table stored window.split top

-- There are places from `low` to `top`, and their costs are small.
pub record HasKeys (table : List Costs) (low top : ℕ) : Type 0 where
  pub room : top < length table
  pub some : low ≤ top
  pub within : top ≤ 8192
  pub small : (place : ℕ) (mode : Mode) → low ≤ place → place ≤ top → kept_cost table place mode ≤ 303113
