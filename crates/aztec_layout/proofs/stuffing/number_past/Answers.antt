use Rattle.std.proofs.Common.{drop, arith}
use Rattle.aztec_layout.specs.Stuffing.{with_ones}
use Rattle.aztec_layout.proofs.BitLemmas.{number_more, number_none}
use Rattle.aztec_layout.proofs.StuffingLemmas.{filled_bit_from, length-filled_from}
use Rattle.aztec_layout.proofs.stuffing.number_past.Goals as goal

pub loop-i-init : goal.loop-i-init
loop-i-init c = number_none (drop c.args.at (with_ones c.args.width c.args.bits.now))

pub loop-i-preserved : goal.loop-i-preserved
loop-i-preserved c =
    number_more (drop c.args.at (with_ones c.args.width c.args.bits.now)) c.loop-i.i c.loop-i.number c.from.result c.bit_or_one.result c.loop-i.invariant
    (omega (arith, length-filled_from c.args.width c.args.bits.now c.args.at))
    (filled_bit_from c.args.width c.args.bits.now c.args.at c.loop-i.i c.bit_or_one.result c.bit_or_one.ensures (omega arith))
    c.from.ensures
