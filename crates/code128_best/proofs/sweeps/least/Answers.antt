use Rattle.code128_best.specs.Own.{own_of}
use Rattle.code128_best.proofs.OwnLaws.{own_is, least_all}
use Rattle.code128_best.proofs.sweeps.least.Goals as goal

pub returns : goal.returns
returns c =
    least_all c.args.costs.now c.args.elements.now c.args.at (own_of c.args.elements.now c.args.at) c.cost_of_end-end.result c.cost_of_own-first.result c.values_through-shift.result c.values_through-to_c.result
    c.values_through-to_b.result c.values_through-to_a.result c.values_through-fnc1.result
    c.min.result c.min-2.result c.min-3.result c.min-4.result c.min-5.result c.min-6.result c.cost_of_end-end.ensures
    (own_is c.args.elements.now c.args.at)
    c.cost_of_own-first.ensures.value c.values_through-shift.ensures.value c.values_through-to_c.ensures.value c.values_through-to_b.ensures.value c.values_through-to_a.ensures.value
    c.values_through-fnc1.ensures.value c.min.ensures c.min-2.ensures c.min-3.ensures c.min-4.ensures c.min-5.ensures c.min-6.ensures
