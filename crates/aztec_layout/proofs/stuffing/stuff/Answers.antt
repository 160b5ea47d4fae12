use Rattle.std.proofs.Common.{arith}
use Rattle.aztec_layout.proofs.StuffingLemmas.{begun_all, begun_step, stuffed_once}
use Rattle.aztec_layout.proofs.stuffing.stuff.Goals as goal

pub loop-at-preserved : goal.loop-at-preserved
loop-at-preserved c =
    begun_step c.args.width c.args.bits.now c.loop-at.at c.taken_length-at.result c.loop-at.words c.push.new.self c.next_word-word.result
    c.loop-at.invariant (omega arith) c.next_word-word.ensures.word c.next_word-word.ensures.here
    c.taken_length-at.ensures.few c.taken_length-at.ensures.taken c.in_ok-push.ensures.pushed

pub returns-clause-stuffed : goal.returns-clause-stuffed
returns-clause-stuffed c = begun_all c.args.width c.args.bits.now c.loop-at.at c.loop-at.words c.loop-at.invariant (omega arith)

pub returns-clause-only : goal.returns-clause-only
returns-clause-only c = λ others stuffed.
    stuffed_once c.args.width c.args.bits.now others c.loop-at.words stuffed
    (begun_all c.args.width c.args.bits.now c.loop-at.at c.loop-at.words c.loop-at.invariant (omega arith))
