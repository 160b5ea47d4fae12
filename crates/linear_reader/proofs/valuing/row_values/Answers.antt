use Rattle.std.proofs.Common.{◌<◌, All, length, sym, ap, subst, arith}
use Rattle.linear_reader.specs.Row.{value_bound}
use Rattle.linear_reader.proofs.ListedLaws.{listed_small, listed_few, listed_some}
use Rattle.linear_reader.proofs.valuing.row_values.Goals as goal

pub returns-clause-small : goal.returns-clause-small
returns-clause-small c =
    subst (All (λ value. value < value_bound c.args.symbology)) (sym c.in_ok-all.ensures)
    (listed_small c.args.symbology c.args.start c.in_ok-values.values.items c.requires.start c.in_ok-values.ensures.small)

pub returns-clause-few : goal.returns-clause-few
returns-clause-few c =
    omega (
      arith,
      ap length c.in_ok-all.ensures,
      listed_few c.args.symbology c.args.start c.in_ok-values.values.items c.args.modules.now (omega (arith, c.in_ok-values.ensures.few)) (omega (arith, c.in_ok-values.ensures.most)) c.requires.few,
    )

pub returns-clause-some : goal.returns-clause-some
returns-clause-some c =
    λ is. omega (arith, ap length c.in_ok-all.ensures, listed_some c.args.symbology c.args.start c.in_ok-values.values.items (omega (arith, c.in_ok-values.ensures.enough)) is)
