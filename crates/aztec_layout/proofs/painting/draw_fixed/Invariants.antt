use Rattle.aztec_layout.specs.Painting.{Paints}
use Rattle.aztec_layout.proofs.Dots.{FixedRow}
use Rattle.aztec_layout.proofs.PaintingLemmas.{Upto}
use Rattle.aztec_layout.proofs.painting.draw_fixed.Given as goal

abbrev pub invariant-loop-y : goal.invariant-loop-y
invariant-loop-y l = Paints l.initial.grid l.grid (Upto (FixedRow l.full l.centre) l.y)
