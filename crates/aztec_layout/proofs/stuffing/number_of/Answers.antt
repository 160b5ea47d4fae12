use Rattle.std.proofs.lemmas.List.{get_or_default}
use Rattle.aztec_layout.proofs.BitLemmas.{number_more, number_none}
use Rattle.aztec_layout.proofs.stuffing.number_of.Goals as goal

pub loop-bit-init : goal.loop-bit-init
loop-bit-init c = number_none c.args.bits.now

pub loop-bit-preserved : goal.loop-bit-preserved
loop-bit-preserved c =
    number_more c.args.bits.now c.loop-bit.bit-index c.loop-bit.number c.from.result _ c.loop-bit.invariant c.loop-bit-test.true
    (get_or_default c.args.bits.now c.loop-bit.bit-index _ _ c.loop-bit-test.true) c.from.ensures
