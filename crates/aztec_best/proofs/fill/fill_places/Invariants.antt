use Rattle.aztec_best.proofs.Filling.{IsFilledTo}
use Rattle.aztec_best.proofs.fill.fill_places.Given as goal

abbrev pub invariant-loop-place : goal.invariant-loop-place
invariant-loop-place l = IsFilledTo l.costs l.shorts l.longs l.elements l.place l.bytes l.short l.long

abbrev pub decreases-loop-place : goal.decreases-loop-place
decreases-loop-place l = l.place
