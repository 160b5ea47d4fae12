use Rattle.aztec_modes.proofs.Steps.{bytes_more}
use Rattle.aztec_modes.proofs.message.push_bytes.Goals as goal

pub loop-byte-preserved : goal.loop-byte-preserved
loop-byte-preserved c = bytes_more _ _ _ _ _ c.loop-byte-test.true c.loop-byte.invariant c.in_ok-push.ensures.pushed
