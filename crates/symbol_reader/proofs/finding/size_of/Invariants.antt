use Rattle.std.proofs.Common.{◌<◌, ℕ}
use Rattle.aztec_layout.specs.DataReading.{HasSide}
use Rattle.symbol_reader.proofs.finding.size_of.Given as goal

abbrev pub invariant-loop-layers : goal.invariant-loop-layers
invariant-loop-layers l = (n : ℕ) → n < l.layers → HasSide l.grid (record { full = l.full; layers = n }) → ⊥
