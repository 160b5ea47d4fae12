-- What begins at a place with a code that spells something.
use Rattle.std.specs.Prelude.{ℕ, List, ◌+◌, min, if◌then◌else◌}
use Rattle.aztec_modes.specs.declared.mode.Mode.{Mode}
use Rattle.aztec_modes.specs.declared.mode.Mode.TheVariants.{Upper, Lower, Mixed, Punct, Digit}
use Rattle.aztec_best.specs.declared.costs.Costs.{Costs}
use Rattle.aztec_best.specs.declared.front.Front.{Front}
use Rattle.aztec_best.specs.declared.lows.Lows.{Lows}
use Rattle.aztec_best.specs.declared.starts.Starts.{Starts}
use Rattle.aztec_best.specs.Bench.{kept_cost}
use Rattle.aztec_best.specs.Latches.{latch_bits}
use Rattle.aztec_best.specs.Numbers.{single_length, has_pair, punct_length}

-- The fewest bits that begin with a code, other than a run, which spells something; at least 2 to the power 30 where there is none.
unfoldable pub data_start : List Costs → (place : ℕ) → Mode → Front → ℕ
data_start table place mode front =
    if has_pair front.first front.second then min (single_length mode front.first + kept_cost table (place + 1) mode) (punct_length mode + kept_cost table (place + 2) mode)
    else single_length mode front.first + kept_cost table (place + 1) mode

-- The fewest bits that begin with a code which spells something, a run among them.
unfoldable pub start_in : List Costs → (place : ℕ) → Mode → Front → Lows → ℕ
start_in table place Upper front runs = min (data_start table place Upper front) runs.upper
start_in table place Lower front runs = min (data_start table place Lower front) runs.lower
start_in table place Mixed front runs = min (data_start table place Mixed front) runs.mixed
start_in table place Punct front runs = data_start table place Punct front
start_in table place Digit front runs = data_start table place Digit front

-- The bits kept for a mode.
unfoldable pub start_of : Starts → Mode → ℕ
start_of starts Upper = starts.upper
start_of starts Lower = starts.lower
start_of starts Mixed = starts.mixed
start_of starts Punct = starts.punct
start_of starts Digit = starts.digit

-- The fewest bits from a mode on, by latches to a mode and what is kept for it.
unfoldable pub settled : Mode → (Mode → ℕ) → ℕ
settled mode starts =
    min (latch_bits mode Upper + starts Upper) (min (latch_bits mode Lower + starts Lower) (min (latch_bits mode Mixed + starts Mixed)
    (min (latch_bits mode Punct + starts Punct) (latch_bits mode Digit + starts Digit))))
