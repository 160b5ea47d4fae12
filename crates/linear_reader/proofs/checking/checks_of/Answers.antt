use Rattle.std.proofs.Common.{◌<◌, All, length, sym, ap, subst, arith}
use Rattle.linear_reader.specs.Row.{value_bound}
use Rattle.linear_reader.proofs.ListedLaws.{data_small, data_some}
use Rattle.linear_reader.proofs.checking.checks_of.Goals as goal

pub wanted_checks-requires-clause-small : goal.wanted_checks-requires-clause-small
wanted_checks-requires-clause-small c =
    subst (All (λ value. value < value_bound c.args.symbology)) (sym c.data_values.ensures.values) (data_small c.args.symbology (value_bound c.args.symbology) c.args.values.now c.requires.small)

pub wanted_checks-requires-clause-some : goal.wanted_checks-requires-clause-some
wanted_checks-requires-clause-some c =
    λ is. omega (arith, ap length c.data_values.ensures.values, data_some c.args.symbology c.args.values.now (c.requires.some is) is)
