use Rattle.std.proofs.Common.{◌-◌, length}
use Rattle.aztec_layout.proofs.StuffingLemmas.{IsBegun}
use Rattle.aztec_layout.proofs.stuffing.stuff.Given as goal

abbrev pub invariant-loop-at : goal.invariant-loop-at
invariant-loop-at l = IsBegun l.width l.bits l.at l.words

abbrev pub decreases-loop-at : goal.decreases-loop-at
decreases-loop-at l = length l.bits - l.at
