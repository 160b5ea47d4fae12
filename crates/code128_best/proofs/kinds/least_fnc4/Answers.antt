use Rattle.code128_best.proofs.KindLaws.{best_fnc4}
use Rattle.code128_best.proofs.kinds.least_fnc4.Goals as goal

pub returns : goal.returns
returns c =
    best_fnc4 c.args.costs.now c.args.elements.now c.args.place c.args.is_b c.args.latch c.own_text-own.result c.onward_text-shift.result c.onward_text-turned.result c.min.result c.min-2.result c.min-3.result
    c.own_text-own.ensures.value c.onward_text-shift.ensures.value c.onward_text-turned.ensures.value c.min.ensures c.min-2.ensures c.min-3.ensures
