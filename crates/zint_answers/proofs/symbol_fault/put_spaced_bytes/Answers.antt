use Rattle.std.proofs.Common.{sym, arith}
use Rattle.std.proofs.lemmas.List.{append-nil}
use Rattle.zint_answers.specs.Report.{spaced_text}
use Rattle.zint_answers.proofs.Numbers.{spaced_next}
use Rattle.zint_answers.proofs.symbol_fault.put_spaced_bytes.Goals as goal

pub loop-number-init : goal.loop-number-init
unfolding spaced_text
loop-number-init c = (sym (append-nil c.args.detail.now.items), omega arith)

pub loop-number-preserved : goal.loop-number-preserved
loop-number-preserved c = (
  rw (c.put_byte.ensures.items, c.put.ensures.items, c.loop-number.invariant.0)
      (spaced_next c.args.detail.now.items c.args.numbers.now c.loop-number.number-index c.loop-number-test.true),
  omega (arith, c.put_byte.ensures.counted, c.put.ensures.counted, c.loop-number.invariant.1),
)
