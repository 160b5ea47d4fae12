use Rattle.std.proofs.Common.{◌<◌, ℕ}
use Rattle.aztec_layout.specs.CoreReading.{Agrees}
use Rattle.aztec_layout.proofs.core_reading.finder.Given as goal

abbrev pub invariant-loop-y : goal.invariant-loop-y
invariant-loop-y l = (a b : ℕ) → a < l.grid.width → b < l.y → Agrees l.full l.grid a b
