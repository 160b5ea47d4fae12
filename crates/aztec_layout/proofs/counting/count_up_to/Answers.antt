use Rattle.std.proofs.Common.{arith}
use Rattle.aztec_layout.proofs.StuffingLemmas.{up_to_past}
use Rattle.aztec_layout.proofs.counting.count_up_to.Goals as goal

pub returns-then-len-width : goal.returns-then-len-width
returns-then-len-width c = up_to_past c.args.width c.args.bits.now c.args.most (omega (arith, c.len.ensures.counted))
