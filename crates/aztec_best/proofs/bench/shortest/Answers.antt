use Rattle.std.proofs.Common.{◌≡◌, List, length, sym, subst, arith}
use Rattle.std.specs.Vec.{with_items}
use Rattle.std.proofs.lemmas.List.{with_items_is}
use Rattle.aztec_best.specs.declared.costs.Costs.{Costs}
use Rattle.aztec_best.specs.Bench.{padded, IsFilledFrom}
use Rattle.aztec_best.proofs.Small.{length-padded, filled_padded}
use Rattle.aztec_best.proofs.bench.shortest.Goals as goal

pub returns-clause-filled : goal.returns-clause-filled
returns-clause-filled c =
    let same : (with_items c.make_rows.new.costs c.fill.new.costs).items ≡ c.fill.new.costs =
    with_items_is c.make_rows.new.costs c.fill.new.costs (omega (arith, c.fill.auto.costs, c.deref_mut.ensures.len)) in
    subst (λ (rows : List Costs). (length (padded rows) ≡ 8193) × IsFilledFrom (padded rows) c.args.elements.now 0) (sym same)
    (length-padded c.fill.new.costs (omega (arith, c.make_rows.ensures.shorter, c.fill.auto.costs, c.deref_mut.ensures.len)), filled_padded c.fill.new.costs c.args.elements.now 0 c.fill.ensures.filled)
