use Rattle.aztec_best.specs.Bench.{kept_cost}
use Rattle.aztec_best.proofs.DrawnBits.{AreBitsTo}
use Rattle.aztec_best.proofs.draw.drawn_bits.Given as goal

abbrev pub invariant-loop-at : goal.invariant-loop-at
invariant-loop-at l = AreBitsTo l.append l.elements l.bits l.at.mode l.at.place

abbrev pub decreases-loop-at : goal.decreases-loop-at
decreases-loop-at l = kept_cost l.costs l.at.place l.at.mode
