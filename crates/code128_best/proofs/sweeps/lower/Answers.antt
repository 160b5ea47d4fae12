use Rattle.std.proofs.Common.{◌≤◌, sym, subst, length}
use Rattle.code128_best.specs.declared.stepping.Stand.{Stand}
use Rattle.code128_best.specs.Costs.{IsBest}
use Rattle.code128_best.proofs.TableLaws.{stand_within, table_lower}
use Rattle.code128_best.proofs.sweeps.lower.Goals as goal

pub least-best-requires-clause-within : goal.least-best-requires-clause-within
least-best-requires-clause-within c =
    subst (λ (s : Stand). s.place ≤ length c.args.elements.now) (sym c.stand_from.ensures)
    (stand_within c.args.costs.now c.args.elements.now c.args.index c.requires.table c.requires.inside)

pub returns-then-best-costs-clause-table : goal.returns-then-best-costs-clause-table
returns-then-best-costs-clause-table c =
    table_lower c.args.costs.now c.args.elements.now c.args.index c.least-best.result c.requires.table c.requires.inside
    (subst (λ (s : Stand). IsBest c.args.costs.now c.args.elements.now s 103 c.least-best.result) c.stand_from.ensures c.least-best.ensures)
