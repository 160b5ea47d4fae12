use Rattle.std.proofs.Common.{length, ◌-◌}
use Rattle.gs1_check.proofs.ReadTexts.{Reading}
use Rattle.gs1_check.proofs.parsing.body_in.Given as goal

abbrev pub invariant-loop-place : goal.invariant-loop-place
invariant-loop-place l = Reading l.brackets l.text l.place l.owed l.body

abbrev pub decreases-loop-place : goal.decreases-loop-place
decreases-loop-place l = length l.text - l.place
