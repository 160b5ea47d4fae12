use Rattle.std.proofs.Common.{length, ◌-◌}
use Rattle.gs1_check.proofs.ShownBodies.{Gathered}
use Rattle.gs1_check.proofs.showing.bytes_from.Given as goal

abbrev pub invariant-loop-byte : goal.invariant-loop-byte
invariant-loop-byte l = Gathered l.body l.place l.at l.bytes.items

abbrev pub decreases-loop-byte : goal.decreases-loop-byte
decreases-loop-byte l = length l.body - l.at
