use Rattle.aztec_modes.proofs.NumbersAhead.{NumberSoFar}
use Rattle.aztec_modes.proofs.ahead.number_from.Given as goal

abbrev pub invariant-loop-i : goal.invariant-loop-i
invariant-loop-i l = NumberSoFar l.bits l.at l.i l.number
