use Rattle.std.proofs.Common.{◌<◌, ℕ}
use Rattle.aztec_layout.specs.CoreReading.{Agrees}
use Rattle.aztec_layout.proofs.core_reading.differing_in_row.Given as goal

abbrev pub invariant-loop-x : goal.invariant-loop-x
invariant-loop-x l = (a : ℕ) → a < l.x → Agrees l.full l.grid a l.y
