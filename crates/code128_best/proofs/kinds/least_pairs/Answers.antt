use Rattle.code128_best.proofs.KindLaws.{best_pairs}
use Rattle.code128_best.proofs.kinds.least_pairs.Goals as goal

pub returns : goal.returns
returns c =
    best_pairs c.args.costs.now c.args.elements.now c.args.place c.args.latch c.args.fnc4 c.args.shift c.end_pairs-end.result c.own_pairs-own.result c.onward_text-by_100.result c.onward_text-by_101.result
    c.fnc1_pairs-fnc1.result c.min.result c.min-2.result c.min-3.result c.min-4.result c.end_pairs-end.ensures c.own_pairs-own.ensures.value c.onward_text-by_100.ensures.value
    c.onward_text-by_101.ensures.value c.fnc1_pairs-fnc1.ensures.value c.min.ensures c.min-2.ensures c.min-3.ensures c.min-4.ensures
