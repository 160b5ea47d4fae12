use Rattle.std.proofs.Common.{◌++◌, ◌∷◌, [], ℕ, List, sym, ap, subst, ◌∙◌, arith}
use Rattle.code128_best.specs.declared.stepping.Stand.{Stand}
use Rattle.code128_best.specs.Spelling.{plain}
use Rattle.code128_best.specs.Steps.{beginning}
use Rattle.code128_best.specs.Picks.{IsOnWay}
use Rattle.code128_best.proofs.StepLaws.{step_within}
use Rattle.code128_best.proofs.PickLaws.{through_step}
use Rattle.code128_best.proofs.WayLaws.{way_start, way_more, way_end}
use Rattle.code128_best.proofs.drawing.values_from.Goals as goal

pub loop-left-init : goal.loop-left-init
loop-left-init c = record {
  on_way =
      subst (λ (s : Stand). IsOnWay c.args.costs.now c.args.elements.now c.args.start.value (plain c.args.start.set) c.push.new.self.items s) (sym c.beginning_in-at.ensures.value)
      (subst (λ (xs : List ℕ). IsOnWay c.args.costs.now c.args.elements.now c.args.start.value (plain c.args.start.set) xs (beginning (plain c.args.start.set))) (sym (c.in_ok-push.ensures.items ∙ ap (λ (xs : List ℕ). xs ++ c.args.start.value ∷ []) c.new-values.ensures.items))
      (way_start c.args.costs.now c.args.elements.now c.args.start.value (plain c.args.start.set) c.requires.begins c.requires.known));
  cost_here = c.cost-left.ensures.value;
}

pub cost-left-requires-in-loop-left-clause-within : goal.cost-left-requires-in-loop-left-clause-within
cost-left-requires-in-loop-left-clause-within c =
    step_within c.args.elements.now c.loop-left.at c.pick-value.result c.after_value-at.result c.loop-left.invariant.on_way.within c.after_value-at.ensures

pub loop-left-smaller : goal.loop-left-smaller
loop-left-smaller c =
    omega (
      arith,
      c.cost-left-in-loop-left.ensures.value,
      c.pick-value.ensures.cheapest,
      through_step c.args.costs.now c.args.elements.now c.loop-left.at c.after_value-at.result c.pick-value.result c.after_value-at.ensures,
      c.loop-left.invariant.cost_here,
    )

pub loop-left-preserved : goal.loop-left-preserved
loop-left-preserved c = record {
  on_way =
      subst (λ (xs : List ℕ). IsOnWay c.args.costs.now c.args.elements.now c.args.start.value (plain c.args.start.set) xs c.after_value-at.result) (sym c.in_ok-push-2.ensures.items)
      (way_more c.args.costs.now c.args.elements.now c.requires.settled c.args.start.value (plain c.args.start.set) c.loop-left.values.items c.loop-left.at c.after_value-at.result c.pick-value.result
      c.loop-left.invariant.on_way (omega (arith, c.loop-left.invariant.cost_here)) c.pick-value.ensures c.after_value-at.ensures);
  cost_here = c.cost-left-in-loop-left.ensures.value;
}

pub returns : goal.returns
returns c =
    way_end c.args.costs.now c.args.elements.now c.requires.settled c.args.start.value (plain c.args.start.set) c.loop-left.values.items c.loop-left.at
    c.loop-left.invariant.on_way (omega (arith, c.loop-left.invariant.cost_here))
