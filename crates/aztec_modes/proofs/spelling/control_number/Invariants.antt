use Rattle.std.proofs.Common.{◌≡◌, ◌<◌, ℕ}
use Rattle.aztec_modes.specs.Codes.{table_symbol}
use Rattle.aztec_modes.proofs.spelling.control_number.Given as goal

abbrev pub invariant-loop-number : goal.invariant-loop-number
invariant-loop-number l = (k : ℕ) → k < l.number → table_symbol l.mode k ≡ l.wanted → ⊥
