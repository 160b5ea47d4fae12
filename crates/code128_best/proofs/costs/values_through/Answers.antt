use Rattle.std.proofs.Common.{◌∙◌, sym}
use Rattle.code128_best.proofs.StepLaws.{step_within}
use Rattle.code128_best.proofs.costs.values_through.Goals as goal

pub cost-requires-clause-within : goal.cost-requires-clause-within
cost-requires-clause-within c =
    step_within c.args.elements.now c.args.at c.args.value c.in-Some.next c.requires.within (sym c.step.ensures ∙ c.in-Some.is)
