use Rattle.bar_base.specs.CheckDigit.{three_or_one}
use Rattle.bar_base.proofs.Weights.{IsSummed}
use Rattle.bar_base.proofs.digits.last_digit_of_sum.Given as goal

abbrev pub invariant-loop-digit : goal.invariant-loop-digit
invariant-loop-digit l = IsSummed three_or_one l.digits l.digit-index l.behind l.sum
