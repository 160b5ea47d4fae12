use Rattle.std.proofs.Common.{◌≡◌, sym, ap, ◌∙◌, arith}
use Rattle.code128_best.specs.Steps.{values_through, next_cost}
use Rattle.code128_best.proofs.pick.after_value.Goals as goal

pub unreachable-requires : goal.unreachable-requires
unfolding values_through next_cost
unreachable-requires c =
    let none : values_through c.args.costs.now c.args.elements.now c.args.at c.args.value ≡ 1000 = ap (next_cost c.args.costs.now) (sym c.step.ensures ∙ c.in-None.is) in
    omega arith
