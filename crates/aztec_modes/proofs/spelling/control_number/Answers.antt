use Rattle.std.proofs.Common.{arith}
use Rattle.aztec_modes.proofs.spelling.control_number.Goals as goal

pub unreachable-requires : goal.unreachable-requires
unreachable-requires c = c.loop-number.invariant c.requires.0 (omega arith) c.requires.2
