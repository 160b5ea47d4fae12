use Rattle.std.proofs.Common.{◌∙◌, ◌+◌, sym, ap}
use Rattle.code128_best.specs.Own.{own_of}
use Rattle.code128_best.specs.Steps.{values_through, next_cost}
use Rattle.code128_best.proofs.StepLaws.{step_within}
use Rattle.code128_best.proofs.OwnLaws.{own_steps_to}
use Rattle.code128_best.proofs.costs.cost_of_own.Goals as goal

pub cost-requires-clause-within : goal.cost-requires-clause-within
cost-requires-clause-within c =
    step_within c.args.elements.now c.args.at (own_of c.args.elements.now c.args.at) c.in-Some.next c.requires.within
    (own_steps_to c.args.elements.now c.args.at ∙ sym c.own_step.ensures ∙ c.in-Some.is)

pub returns-in-Some : goal.returns-in-Some
unfolding values_through next_cost
returns-in-Some c = record {
  value = ap (λ n. 1 + n) c.cost.ensures.value ∙ sym (ap (next_cost c.args.costs.now) (own_steps_to c.args.elements.now c.args.at ∙ sym c.own_step.ensures ∙ c.in-Some.is));
}

pub returns-in-None : goal.returns-in-None
unfolding values_through next_cost
returns-in-None c = record {
  value = sym (ap (next_cost c.args.costs.now) (own_steps_to c.args.elements.now c.args.at ∙ sym c.own_step.ensures ∙ c.in-None.is));
}
