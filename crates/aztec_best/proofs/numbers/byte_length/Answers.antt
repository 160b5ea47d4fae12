use Rattle.std.proofs.Common.{arith}
use Rattle.aztec_best.proofs.ByteLaws.{width_few}
use Rattle.aztec_best.proofs.numbers.byte_length.Goals as goal

pub returns-then-data_number-ne0-clause-few : goal.returns-then-data_number-ne0-clause-few
returns-then-data_number-ne0-clause-few c = omega (arith, c.width.ensures, width_few c.args.mode)
