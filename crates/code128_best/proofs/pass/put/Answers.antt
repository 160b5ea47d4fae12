use Rattle.std.proofs.Common.{ℕ, ◌+◌, ◌*◌, set, sym, subst}
use Rattle.code128_best.specs.Costs.{IsTable}
use Rattle.code128_best.proofs.TableLaws.{table_at}
use Rattle.code128_best.proofs.pass.put.Goals as goal

pub returns : goal.returns
returns c =
    subst (λ (n : ℕ). IsTable (set c.args.costs.now (24 * c.args.at.place + n) c.args.best) c.args.elements.now) (sym c.number.ensures.value)
    (table_at c.args.costs.now c.args.elements.now c.args.at c.args.best c.requires.table c.requires.within c.requires.best)
