-- The pick: the least value through which the cost is the least. With the first values of the rest it makes the first values of the whole.
use Rattle.std.proofs.Common.{◌≡◌, inl, inr, ℕ, ◌+◌, ◌<◌, ◌≤◌, true, List, [], ◌∷◌, ◌++◌, length, drop, Some, ◌&&◌, refl, sym, ap, subst, ◌∙◌, arith, eq-eqb}
use Rattle.std.proofs.lemmas.Bool.{cases_order, cases_lt}
use Rattle.std.proofs.lemmas.List.{length-drop}
use Rattle.bar_base.specs.declared.element.Element.{Element}
use Rattle.code128_best.specs.declared.state.State.{State}
use Rattle.code128_best.specs.declared.stepping.Stand.{Stand}
use Rattle.code128_best.specs.Values.{spelled_elements, spelled_count, is_free}
use Rattle.code128_best.specs.Spelling.{ValuesSpell, ended, onward, ValuesPrecede, differ, AreFirstValues}
use Rattle.code128_best.specs.Steps.{is_end, kept_values, next_cost, values_through, value_step}
use Rattle.code128_best.specs.Costs.{IsReached, IsSettled}
use Rattle.code128_best.specs.Picks.{IsPick}
use Rattle.code128_best.specs.Rules.{Acts}
use Rattle.code128_best.proofs.RuleLaws.{HasEffect, acts_has}
use Rattle.code128_best.proofs.StepLaws.{steps_from, step_within, rest_after}
use Rattle.code128_best.proofs.TableLaws.{spells_more}
use Rattle.code128_best.proofs.BoundLaws.{act_small}
use Rattle.code128_best.proofs.Order.{ValuesPrecede-behind, ValuesPrecede-length, ValuesPrecede-nil}

pub through_step : (table : List ℕ) (es : List Element) (at next : Stand) (value : ℕ) → value_step es at value ≡ Some next → values_through table es at value ≡ 1 + kept_values table next
unfolding values_through next_cost
through_step table es at next value h = ap (next_cost table) h

ends_here : (es : List Element) (place : ℕ) (state : State) → place ≤ length es → [] ≡ drop place es → is_free state ≡ true → is_end es (record { place = place; state = state }) ≡ true
unfolding is_end
ends_here es place state within none free =
    let e : place ≡ length es = omega (arith, ap length none, length-drop place es) in
    ap (λ b. b && is_free state) (eq-eqb place (length es) e) ∙ free

-- a rule as a step
acts_splits : (es rest : List Element) (at : Stand) (value : ℕ) (after : State) (spelled : List Element) (has : HasEffect at.state value after spelled) → spelled ++ rest ≡ drop at.place es
    → drop at.place es ≡ spelled_elements has.effect.spelled ++ rest
acts_splits es rest at value after spelled has is = sym is ∙ ap (λ (xs : List Element). xs ++ rest) (sym has.spells)

acts_step : (es rest : List Element) (at : Stand) (value : ℕ) (after : State) (spelled : List Element) (has : HasEffect at.state value after spelled) → spelled ++ rest ≡ drop at.place es
    → value_step es at value ≡ Some (record { place = at.place + spelled_count has.effect.spelled; state = after })
acts_step es rest at value after spelled has is =
    subst (λ (s : State). value_step es at value ≡ Some (record { place = at.place + spelled_count has.effect.spelled; state = s })) has.leads
    (steps_from es rest at value has.effect has.acts (acts_splits es rest at value after spelled has is))

acts_rest : (es rest : List Element) (at : Stand) (value : ℕ) (after : State) (spelled : List Element) (has : HasEffect at.state value after spelled) → spelled ++ rest ≡ drop at.place es
    → rest ≡ drop (at.place + spelled_count has.effect.spelled) es
acts_rest es rest at value after spelled has is = rest_after has.effect.spelled es rest at.place (acts_splits es rest at value after spelled has is)

-- A spelling that begins with a value, as a step.
pub record Onward (es : List Element) (at : Stand) (value : ℕ) (values : List ℕ) : Type 0 where
  pub next : Stand
  pub below : value < 103
  pub steps : value_step es at value ≡ Some next
  pub spells : ValuesSpell next.state values (drop next.place es)

onward_step : (es rest : List Element) (at : Stand) (value : ℕ) (after : State) (spelled : List Element) (values : List ℕ) → Acts at.state value after spelled
    → ValuesSpell after values rest → spelled ++ rest ≡ drop at.place es → Onward es at value values
onward_step es rest at value after spelled values acts spells is =
    let has = acts_has acts in
    record {
      next = record { place = at.place + spelled_count has.effect.spelled; state = after };
      below = act_small at.state value has.effect has.acts;
      steps = acts_step es rest at value after spelled has is;
      spells = subst (λ (xs : List Element). ValuesSpell after values xs) (acts_rest es rest at value after spelled has is) spells;
    }

module _ (table : List ℕ) (es : List Element) (settled : IsSettled table es) where
  -- no spelling has fewer values than the cost
  pub cost_least : {state : State} {values : List ℕ} {rest : List Element} (place : ℕ) → place ≤ length es → ValuesSpell state values rest → rest ≡ drop place es
      → kept_values table (record { place = place; state = state }) ≤ length values
  cost_least {state = state} place within (ended free) is =
      omega (arith, settled.ended (record { place = place; state = state }) within (ends_here es place state within is free))
  cost_least {state = state} place within (onward {next = after} {value = value} {values = values} {spelled = spelled} {elements = rest} acts spells) is =
      let at : Stand = record { place = place; state = state } in
      let has : HasEffect state value after spelled = acts_has acts in
      let next : Stand = record { place = place + spelled_count has.effect.spelled; state = after } in
      let steps : value_step es at value ≡ Some next = acts_step es rest at value after spelled has is in
      omega (
        arith,
        settled.few at value within (act_small state value has.effect has.acts),
        through_step table es at next value steps,
        cost_least (place + spelled_count has.effect.spelled) (step_within es at value next within steps) spells (acts_rest es rest at value after spelled has is),
      )

  -- the first spelling of a rest has as many values as the cost
  pub first_counted : (at : Stand) (values : List ℕ) → at.place ≤ length es → kept_values table at < 1000 → AreFirstValues at.state (drop at.place es) values
      → length values ≡ kept_values table at
  first_counted at values within known first =
      elim (settled.reached at within) [
        | inl none ↦ absurd (omega arith)
        | inr (others, spells, counted) ↦
            omega (arith, cost_least at.place within first.spells refl, ValuesPrecede-length values others (first.first others spells))
      ]

  there_from : (at : Stand) {state : State} {values : List ℕ} {rest : List Element} → at.place ≤ length es → 0 < kept_values table at → length values ≤ kept_values table at
      → ValuesSpell state values rest → state ≡ at.state → rest ≡ drop at.place es → (value : ℕ) × (value < 103) × (values_through table es at value ≡ kept_values table at)
  there_from at within some few (ended free) same is =
      absurd (omega (
        arith,
        settled.ended at within (ends_here es at.place at.state within is (subst (λ (s : State). is_free s ≡ true) same free)),
      ))
  there_from at {state = state} within some few (onward {next = after} {value = value} {values = rest_values} {spelled = spelled} {elements = rest} acts spells) same is =
      let on = onward_step es rest at value after spelled rest_values (subst (λ (s : State). Acts s value after spelled) same acts) spells is in (
        value,
        on.below,
        omega (
          arith,
          settled.few at value within on.below,
          through_step table es at on.next value on.steps,
          cost_least on.next.place (step_within es at value on.next within on.steps) on.spells refl,
        ),
      )

  -- before the end there is a pick
  pub pick_there : (at : Stand) → at.place ≤ length es → 0 < kept_values table at → kept_values table at < 1000
      → (value : ℕ) × (value < 103) × (values_through table es at value ≡ kept_values table at)
  pick_there at within some known =
      elim (settled.reached at within) [
        | inl none ↦ absurd (omega arith)
        | inr (values, spells, counted) ↦ there_from at within some (omega arith) spells refl refl
      ]

  pick_before : (at next : Stand) (value : ℕ) (values others : List ℕ) {state : State} {rest : List Element} → at.place ≤ length es → 0 < kept_values table at
      → IsPick table es at value → value_step es at value ≡ Some next → AreFirstValues next.state (drop next.place es) values → length values ≡ kept_values table next
      → ValuesSpell state others rest → state ≡ at.state → rest ≡ drop at.place es → ValuesPrecede (value ∷ values) others
  pick_before at next value values others within some pick steps first counted (ended free) same is =
      absurd (omega (
        arith,
        settled.ended at within (ends_here es at.place at.state within is (subst (λ (s : State). is_free s ≡ true) same free)),
      ))
  pick_before at next value values others {state = state} within some pick steps first counted
      (onward {next = after} {value = other} {values = rest_values} {spelled = spelled} {elements = rest} acts spells) same is =
      let on = onward_step es rest at other after spelled rest_values (subst (λ (s : State). Acts s other after spelled) same acts) spells is in
      let least : kept_values table on.next ≤ length rest_values = cost_least on.next.place (step_within es at other on.next within on.steps) on.spells refl in
      let cost_here : values_through table es at value ≡ 1 + kept_values table next = through_step table es at next value steps in
      let cost_other : values_through table es at other ≡ 1 + kept_values table on.next = through_step table es at on.next other on.steps in
      let low = settled.few at other within on.below in
      let cheap = pick.cheapest in
      elim (cases_lt (length values) (length rest_values)) [
        | inl longer ↦ inl (omega arith)
        | inr no_longer ↦ elim (cases_order value other) [
          | inl equal ↦
              let alike : on.next ≡ next = let e : Some on.next ≡ Some next = sym on.steps ∙ subst (λ (v : ℕ). value_step es at v ≡ Some next) equal steps in cc in
              let again : ValuesSpell next.state rest_values (drop next.place es) = subst (λ (s : Stand). ValuesSpell s.state rest_values (drop s.place es)) alike on.spells in
              subst (λ (v : ℕ). ValuesPrecede (value ∷ values) (v ∷ rest_values)) equal (ValuesPrecede-behind value values rest_values (first.first rest_values again))
          | inr (inl less) ↦ inr (omega arith, inr (differ less))
          | inr (inr more) ↦ absurd (pick.earlier other more (omega arith))
        ]
      ]

  -- a pick and the first values of the rest are the first of the whole
  pub pick_first : (at next : Stand) (value : ℕ) (values : List ℕ) → at.place ≤ length es → 0 < kept_values table at → kept_values table at < 1000
      → IsPick table es at value → value_step es at value ≡ Some next → AreFirstValues next.state (drop next.place es) values
      → AreFirstValues at.state (drop at.place es) (value ∷ values)
  pick_first at next value values within some known pick steps first =
      let counted : length values ≡ kept_values table next = first_counted next values (step_within es at value next within steps)
      (omega (arith, pick.cheapest, through_step table es at next value steps)) first in
      record {
        spells = spells_more es at next value values steps first.spells;
        first = λ others spells. pick_before at next value values others within some pick steps first counted spells refl refl;
      }

  -- at the end nothing is the first
  pub end_first : (at : Stand) → at.place ≤ length es → kept_values table at ≡ 0 → AreFirstValues at.state (drop at.place es) []
  end_first at within none =
      record { spells = end_spells at within none (settled.reached at within); first = λ others spells. ValuesPrecede-nil others } where
        end_spells : (at : Stand) → at.place ≤ length es → kept_values table at ≡ 0 → IsReached es at (kept_values table at) → ValuesSpell at.state [] (drop at.place es)
        end_spells at within none (inl dear) = absurd (omega arith)
        end_spells at within none (inr ([], spells, counted)) = spells
        end_spells at within none (inr (value ∷ values, spells, counted)) = absurd (omega arith)
