use Rattle.std.proofs.Common.{◌≡◌, ◌++◌, take}
use Rattle.zint_answers.specs.Report.{spaced_text}
use Rattle.zint_answers.proofs.report.put_spaced.Given as goal

-- the numbers so far were put
abbrev pub invariant-loop-number : goal.invariant-loop-number
invariant-loop-number l = l.text.items ≡ l.initial.text.items ++ spaced_text (take l.number-index l.numbers)
