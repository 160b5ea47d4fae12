-- What begins with a run of bytes.
use Rattle.std.specs.Prelude.{◌≡◌, ◌⊎◌, ◌≤◌, ◌+◌, ◌*◌, ℕ, List}
use Rattle.aztec_modes.specs.declared.mode.Mode.{Mode}
use Rattle.aztec_modes.specs.declared.mode.Mode.TheVariants.{Upper, Lower, Mixed}
use Rattle.aztec_best.specs.declared.costs.Costs.{Costs}
use Rattle.aztec_best.specs.declared.lows.Lows.{Lows}
use Rattle.aztec_best.specs.Bench.{kept_cost}

-- The bits of a run's head and bytes, and of what follows it.
unfoldable pub run_length : List Costs → Mode → (place head count : ℕ) → ℕ
run_length table mode place head count = head + 8 * count + kept_cost table (place + count) mode

-- The least bits over runs of `fewest` to `most` bytes.
pub record IsRun (table : List Costs) (mode : Mode) (place fewest most head number : ℕ) : Type 0 where
  pub bound : (count : ℕ) → fewest ≤ count → count ≤ most → number ≤ run_length table mode place head count
  pub reached : (count : ℕ) × (fewest ≤ count) × (count ≤ most) × (number ≡ run_length table mode place head count)

-- And for each mode that has runs.
pub record AreRuns (table : List Costs) (place fewest most head : ℕ) (lows : Lows) : Type 0 where
  pub upper : IsRun table Upper place fewest most head lows.upper
  pub lower : IsRun table Lower place fewest most head lows.lower
  pub mixed : IsRun table Mixed place fewest most head lows.mixed

-- The least bits over runs of both forms, where so many bytes stand; at least 2 to the power 30 where none does.
pub record IsRunStart (table : List Costs) (mode : Mode) (place bytes number : ℕ) : Type 0 where
  pub short : (count : ℕ) → 1 ≤ count → count ≤ 31 → count ≤ bytes → number ≤ run_length table mode place 10 count
  pub long : (count : ℕ) → 31 ≤ count → count ≤ 2078 → count ≤ bytes → number ≤ run_length table mode place 21 count
  pub reached : ((count : ℕ) × (1 ≤ count) × (count ≤ 31) × (count ≤ bytes) × (number ≡ run_length table mode place 10 count))
      ⊎ ((count : ℕ) × (31 ≤ count) × (count ≤ 2078) × (count ≤ bytes) × (number ≡ run_length table mode place 21 count))
      ⊎ (1073741824 ≤ number)

-- The least bits over runs of both forms, for each mode that has runs: Upper, Lower and Mixed.
pub record AreRunStarts (table : List Costs) (place bytes : ℕ) (lows : Lows) : Type 0 where
  pub upper : IsRunStart table Upper place bytes lows.upper
  pub lower : IsRunStart table Lower place bytes lows.lower
  pub mixed : IsRunStart table Mixed place bytes lows.mixed
