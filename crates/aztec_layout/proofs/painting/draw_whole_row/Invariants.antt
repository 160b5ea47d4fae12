use Rattle.aztec_layout.specs.Painting.{Paints}
use Rattle.aztec_layout.proofs.Dots.{FixedDot}
use Rattle.aztec_layout.proofs.PaintingLemmas.{Upto}
use Rattle.aztec_layout.proofs.painting.draw_whole_row.Given as goal

abbrev pub invariant-loop-x : goal.invariant-loop-x
invariant-loop-x l = Paints l.initial.grid l.grid (Upto (FixedDot l.full l.centre l.y) l.x)
