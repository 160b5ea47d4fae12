use Rattle.std.proofs.Common.{sym}
use Rattle.std.proofs.lemmas.List.{append-nil}
use Rattle.zint_answers.specs.Report.{spaced_text}
use Rattle.zint_answers.proofs.Numbers.{spaced_next}
use Rattle.zint_answers.proofs.report.put_spaced.Goals as goal

pub loop-number-init : goal.loop-number-init
unfolding spaced_text
loop-number-init c = sym (append-nil c.args.text.now.items)

pub loop-number-preserved : goal.loop-number-preserved
loop-number-preserved c =
    rw (c.in_ok-put_number.ensures, c.from.ensures, c.in_ok-put_text.ensures, c.loop-number.invariant)
    (spaced_next c.args.text.now.items c.args.numbers.now c.loop-number.number-index c.loop-number-test.true)
