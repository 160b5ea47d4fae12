use Rattle.std.proofs.Common.{refl, arith}
use Rattle.bar_base.specs.CheckDigit.{three_or_one}
use Rattle.bar_base.proofs.Weights.{IsSummed-none, IsSummed-more, IsSummed-all}
use Rattle.bar_base.proofs.digits.last_digit_of_sum.Goals as goal

pub loop-digit-init : goal.loop-digit-init
loop-digit-init c = IsSummed-none three_or_one c.args.digits.now _ refl

pub loop-digit-preserved : goal.loop-digit-preserved
loop-digit-preserved c = IsSummed-more three_or_one c.args.digits.now c.loop-digit.digit-index c.loop-digit.behind c.loop-digit.sum _ _ c.loop-digit.invariant (omega arith) refl c.with_digit-sum.ensures.sum

pub returns-clause-sum : goal.returns-clause-sum
returns-clause-sum c = IsSummed-all three_or_one c.args.digits.now c.loop-digit.digit-index c.loop-digit.behind c.loop-digit.sum c.loop-digit.invariant (omega arith)
