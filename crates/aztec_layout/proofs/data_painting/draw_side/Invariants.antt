use Rattle.std.proofs.Common.{◌*◌}
use Rattle.aztec_layout.specs.Painting.{Paints}
use Rattle.aztec_layout.proofs.Dots.{SideDot}
use Rattle.aztec_layout.proofs.PaintingLemmas.{Upto}
use Rattle.aztec_layout.proofs.data_painting.draw_side.Given as goal

abbrev pub invariant-loop-pair : goal.invariant-loop-pair
invariant-loop-pair l = Paints l.initial.grid l.grid (Upto (SideDot l.size l.bits l.layer l.side) (2 * l.pair))
