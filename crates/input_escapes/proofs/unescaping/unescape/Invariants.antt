use Rattle.std.proofs.Common.{length, ◌-◌}
use Rattle.input_escapes.proofs.Joining.{Done}
use Rattle.input_escapes.proofs.unescaping.unescape.Given as goal

abbrev pub invariant-loop-place : goal.invariant-loop-place
invariant-loop-place l = Done l.text l.place l.bytes.items

abbrev pub decreases-loop-place : goal.decreases-loop-place
decreases-loop-place l = length l.text - l.place
