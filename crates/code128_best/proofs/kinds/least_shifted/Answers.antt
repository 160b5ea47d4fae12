use Rattle.code128_best.proofs.KindLaws.{best_shifted}
use Rattle.code128_best.proofs.kinds.least_shifted.Goals as goal

pub returns : goal.returns
returns c = best_shifted c.args.costs.now c.args.elements.now c.args.place c.args.is_b c.args.latch c.args.fnc4 c.own_text.result c.min.result c.own_text.ensures.value c.min.ensures
