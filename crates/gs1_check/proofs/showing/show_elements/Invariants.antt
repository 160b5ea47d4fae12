use Rattle.std.proofs.Common.{length, ◌-◌}
use Rattle.gs1_check.proofs.ShownBodies.{Showing}
use Rattle.gs1_check.proofs.showing.show_elements.Given as goal

abbrev pub invariant-loop-text : goal.invariant-loop-text
invariant-loop-text l = Showing l.text.items l.place l.body

abbrev pub decreases-loop-text : goal.decreases-loop-text
decreases-loop-text l = length l.body - l.place
