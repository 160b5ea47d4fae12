use Rattle.aztec_layout.proofs.StuffingLemmas.{IsUnstuffed}
use Rattle.aztec_layout.proofs.unstuffing.unstuff.Given as goal

abbrev pub invariant-loop-place : goal.invariant-loop-place
invariant-loop-place l = IsUnstuffed l.width l.words l.place l.bits
