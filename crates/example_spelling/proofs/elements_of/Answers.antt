use Rattle.std.proofs.Common.{[]}
use Rattle.aztec_modes.specs.Entry.{bytes_as_elements}
use Rattle.aztec_modes.proofs.Steps.{bytes_more}
use Rattle.example_spelling.proofs.elements_of.Goals as goal

pub loop-byte-init : goal.loop-byte-init
unfolding bytes_as_elements
loop-byte-init c = c.new-elements.ensures.empty

pub loop-byte-preserved : goal.loop-byte-preserved
loop-byte-preserved c = bytes_more [] _ _ _ _ c.loop-byte-test.true c.loop-byte.invariant c.in_ok-push.ensures.pushed
