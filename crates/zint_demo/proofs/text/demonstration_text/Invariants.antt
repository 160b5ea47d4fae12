use Rattle.std.proofs.Common.{◌-◌, length}
use Rattle.zint_demo.proofs.Texts.{TextSoFar}
use Rattle.zint_demo.proofs.text.demonstration_text.Given as goal

abbrev pub invariant-loop-generator : goal.invariant-loop-generator
invariant-loop-generator l = TextSoFar l.number l.generator.state l.text.items

abbrev pub decreases-loop-generator : goal.decreases-loop-generator
decreases-loop-generator l = 1500 - length l.text.items
