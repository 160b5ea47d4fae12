use Rattle.std.proofs.Common.{arith}
use Rattle.bar_base.proofs.StripeLaws.{bit_small}
use Rattle.linear_reader.proofs.RowLaws.{digit_more, digit_end, power_more}
use Rattle.linear_reader.proofs.modules.number_of.Goals as goal

pub loop-dark-preserved : goal.loop-dark-preserved
loop-dark-preserved c = record {
  digits = digit_more c.loop-dark.number c.from.result _ c.args.modules.now c.loop-dark.dark-index c.loop-dark-test.true c.loop-dark.invariant.digits c.from.ensures;
  bounded = omega (arith, power_more c.loop-dark.dark-index, bit_small, c.from.ensures);
}

pub returns : goal.returns
returns c = digit_end c.loop-dark.number _ c.args.modules.now c.loop-dark.dark-index c.loop-dark-test.false c.loop-dark.invariant.digits
