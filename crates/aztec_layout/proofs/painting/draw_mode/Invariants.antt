use Rattle.aztec_layout.specs.Painting.{Paints}
use Rattle.aztec_layout.proofs.Dots.{ModeDot}
use Rattle.aztec_layout.proofs.PaintingLemmas.{Upto}
use Rattle.aztec_layout.proofs.painting.draw_mode.Given as goal

abbrev pub invariant-loop-place : goal.invariant-loop-place
invariant-loop-place l = Paints l.initial.grid l.grid (Upto (ModeDot l.full l.centre l.bits) l.place)
