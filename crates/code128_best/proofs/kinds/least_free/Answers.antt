use Rattle.code128_best.proofs.KindLaws.{best_free}
use Rattle.code128_best.proofs.kinds.least_free.Goals as goal

pub returns : goal.returns
returns c =
    best_free c.args.costs.now c.args.elements.now c.args.place c.args.is_b c.args.latch c.end_text-end.result c.own_text-own.result c.onward_text-shift.result c.onward_c-to_c.result
    c.onward_text-by_100.result c.onward_text-by_101.result c.fnc1_text-fnc1.result c.min.result c.min-2.result c.min-3.result c.min-4.result c.min-5.result c.min-6.result
    c.end_text-end.ensures c.own_text-own.ensures.value c.onward_text-shift.ensures.value c.onward_c-to_c.ensures.value c.onward_text-by_100.ensures.value c.onward_text-by_101.ensures.value
    c.fnc1_text-fnc1.ensures.value c.min.ensures c.min-2.ensures c.min-3.ensures c.min-4.ensures c.min-5.ensures c.min-6.ensures
