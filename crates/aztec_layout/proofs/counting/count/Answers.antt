use Rattle.std.proofs.Common.{arith}
use Rattle.aztec_layout.proofs.StuffingLemmas.{has_begun_all, has_begun_more, has_begun_none}
use Rattle.aztec_layout.proofs.counting.count.Goals as goal

pub loop-at-init : goal.loop-at-init
loop-at-init c = has_begun_none c.args.width c.args.bits.now (grind (arith, c.requires.wide))

pub loop-at-preserved : goal.loop-at-preserved
loop-at-preserved c =
    has_begun_more c.args.width c.args.bits.now c.loop-at.at c.taken_length-at.result c.loop-at.words c.next_word-word.result
    c.loop-at.invariant (omega arith) c.next_word-word.ensures.word c.next_word-word.ensures.here
    c.taken_length-at.ensures.few c.taken_length-at.ensures.taken c.taken_length-at.ensures.some

pub returns : goal.returns
returns c = has_begun_all c.args.width c.args.bits.now c.loop-at.at c.loop-at.words c.loop-at.invariant (omega arith)
