use Rattle.std.proofs.Common.{◌-◌, length}
use Rattle.aztec_layout.proofs.StuffingLemmas.{HasBegun}
use Rattle.aztec_layout.proofs.counting.count.Given as goal

abbrev pub invariant-loop-at : goal.invariant-loop-at
invariant-loop-at l = HasBegun l.width l.bits l.at l.words

abbrev pub decreases-loop-at : goal.decreases-loop-at
decreases-loop-at l = length l.bits - l.at
