use Rattle.std.proofs.Common.{ℕ, sym, subst, ◌∙◌, arith}
use Rattle.code128_best.specs.Own.{own_of}
use Rattle.code128_best.specs.Picks.{IsPick}
use Rattle.code128_best.proofs.OwnLaws.{own_is, pick_own, pick_late, last_cheap}
use Rattle.code128_best.proofs.PickLaws.{pick_there}
use Rattle.code128_best.proofs.pick.pick.Goals as goal

pub returns-then-cost_of_own-least : goal.returns-then-cost_of_own-least
returns-then-cost_of_own-least c =
    subst (λ (v : ℕ). IsPick c.args.costs.now c.args.elements.now c.args.at v) (sym c.own_value.ensures.value)
    (pick_own c.args.costs.now c.args.elements.now c.args.at (own_of c.args.elements.now c.args.at) (own_is c.args.elements.now c.args.at) c.requires.known (sym c.cost_of_own.ensures.value ∙ c.if-cost_of_own-least.true ∙ c.cost-least.ensures.value))

pub returns-then-values_through-least : goal.returns-then-values_through-least
returns-then-values_through-least c =
    pick_late c.args.costs.now c.args.elements.now c.args.at (own_of c.args.elements.now c.args.at) 98 (own_is c.args.elements.now c.args.at) c.requires.known (λ same. c.if-cost_of_own-least.false (c.cost_of_own.ensures.value ∙ same ∙ sym c.cost-least.ensures.value))
    (λ less. absurd (omega arith)) (λ less. absurd (omega arith)) (λ less. absurd (omega arith)) (λ less. absurd (omega arith)) (omega arith) (sym c.values_through.ensures.value ∙ c.if-values_through-least.true ∙ c.cost-least.ensures.value)

pub returns-then-values_through-least-2 : goal.returns-then-values_through-least-2
returns-then-values_through-least-2 c =
    pick_late c.args.costs.now c.args.elements.now c.args.at (own_of c.args.elements.now c.args.at) 99 (own_is c.args.elements.now c.args.at) c.requires.known (λ same. c.if-cost_of_own-least.false (c.cost_of_own.ensures.value ∙ same ∙ sym c.cost-least.ensures.value))
    (λ _. (λ same. c.if-values_through-least.false (c.values_through.ensures.value ∙ same ∙ sym c.cost-least.ensures.value))) (λ less. absurd (omega arith)) (λ less. absurd (omega arith)) (λ less. absurd (omega arith)) (omega arith) (sym c.values_through-else-values_through-least.ensures.value ∙ c.if-values_through-least-2.true ∙ c.cost-least.ensures.value)

pub returns-then-values_through-least-3 : goal.returns-then-values_through-least-3
returns-then-values_through-least-3 c =
    pick_late c.args.costs.now c.args.elements.now c.args.at (own_of c.args.elements.now c.args.at) 100 (own_is c.args.elements.now c.args.at) c.requires.known (λ same. c.if-cost_of_own-least.false (c.cost_of_own.ensures.value ∙ same ∙ sym c.cost-least.ensures.value))
    (λ _. (λ same. c.if-values_through-least.false (c.values_through.ensures.value ∙ same ∙ sym c.cost-least.ensures.value))) (λ _. (λ same. c.if-values_through-least-2.false (c.values_through-else-values_through-least.ensures.value ∙ same ∙ sym c.cost-least.ensures.value))) (λ less. absurd (omega arith)) (λ less. absurd (omega arith)) (omega arith) (sym c.values_through-else-values_through-least-2.ensures.value ∙ c.if-values_through-least-3.true ∙ c.cost-least.ensures.value)

pub returns-then-values_through-least-4 : goal.returns-then-values_through-least-4
returns-then-values_through-least-4 c =
    pick_late c.args.costs.now c.args.elements.now c.args.at (own_of c.args.elements.now c.args.at) 101 (own_is c.args.elements.now c.args.at) c.requires.known (λ same. c.if-cost_of_own-least.false (c.cost_of_own.ensures.value ∙ same ∙ sym c.cost-least.ensures.value))
    (λ _. (λ same. c.if-values_through-least.false (c.values_through.ensures.value ∙ same ∙ sym c.cost-least.ensures.value))) (λ _. (λ same. c.if-values_through-least-2.false (c.values_through-else-values_through-least.ensures.value ∙ same ∙ sym c.cost-least.ensures.value))) (λ _. (λ same. c.if-values_through-least-3.false (c.values_through-else-values_through-least-2.ensures.value ∙ same ∙ sym c.cost-least.ensures.value))) (λ less. absurd (omega arith)) (omega arith) (sym c.values_through-else-values_through-least-3.ensures.value ∙ c.if-values_through-least-4.true ∙ c.cost-least.ensures.value)

pub returns-else-values_through-least-4 : goal.returns-else-values_through-least-4
returns-else-values_through-least-4 c =
    pick_late c.args.costs.now c.args.elements.now c.args.at (own_of c.args.elements.now c.args.at) 102 (own_is c.args.elements.now c.args.at) c.requires.known (λ same. c.if-cost_of_own-least.false (c.cost_of_own.ensures.value ∙ same ∙ sym c.cost-least.ensures.value))
    (λ _. (λ same. c.if-values_through-least.false (c.values_through.ensures.value ∙ same ∙ sym c.cost-least.ensures.value))) (λ _. (λ same. c.if-values_through-least-2.false (c.values_through-else-values_through-least.ensures.value ∙ same ∙ sym c.cost-least.ensures.value))) (λ _. (λ same. c.if-values_through-least-3.false (c.values_through-else-values_through-least-2.ensures.value ∙ same ∙ sym c.cost-least.ensures.value))) (λ _. (λ same. c.if-values_through-least-4.false (c.values_through-else-values_through-least-3.ensures.value ∙ same ∙ sym c.cost-least.ensures.value))) (omega arith)
    (last_cheap c.args.costs.now c.args.elements.now c.args.at (own_of c.args.elements.now c.args.at) (own_is c.args.elements.now c.args.at) c.requires.known (pick_there c.args.costs.now c.args.elements.now c.requires.settled c.args.at c.requires.within c.requires.more c.requires.known) (λ same. c.if-cost_of_own-least.false (c.cost_of_own.ensures.value ∙ same ∙ sym c.cost-least.ensures.value)) (λ same. c.if-values_through-least.false (c.values_through.ensures.value ∙ same ∙ sym c.cost-least.ensures.value)) (λ same. c.if-values_through-least-2.false (c.values_through-else-values_through-least.ensures.value ∙ same ∙ sym c.cost-least.ensures.value)) (λ same. c.if-values_through-least-3.false (c.values_through-else-values_through-least-2.ensures.value ∙ same ∙ sym c.cost-least.ensures.value)) (λ same. c.if-values_through-least-4.false (c.values_through-else-values_through-least-3.ensures.value ∙ same ∙ sym c.cost-least.ensures.value)))
