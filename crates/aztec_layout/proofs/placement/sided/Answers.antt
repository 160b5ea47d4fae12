use Rattle.std.proofs.Common.{◌-◌, ◌*◌, arith}
use Rattle.aztec_layout.proofs.Sides.{rest_is}
use Rattle.aztec_layout.proofs.placement.sided.Goals as goal

pub returns-else-number-run-3-clause-rest : goal.returns-else-number-run-3-clause-rest
returns-else-number-run-3-clause-rest c =
    rest_is c.args.number c.args.run 3 (c.args.number - 3 * c.args.run) (omega (arith, c.if-number-run-3.false)) (omega (arith, c.requires.inside, c.if-number-run-3.false))
