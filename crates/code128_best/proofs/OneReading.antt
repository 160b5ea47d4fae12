-- Values spell one list of elements.
use Rattle.std.proofs.Common.{◌≡◌, ℕ, List, Some, refl, sym, ap, subst, ◌∙◌}
use Rattle.bar_base.specs.declared.element.Element.{Element}
use Rattle.code128_best.specs.declared.state.State.{State}
use Rattle.code128_best.specs.declared.effect.Effect.{Effect}
use Rattle.code128_best.specs.Values.{spelled_elements}
use Rattle.code128_best.specs.Rules.{Acts}
use Rattle.code128_best.specs.Spelling.{ValuesSpell, ended, onward}
use Rattle.code128_best.proofs.RuleLaws.{HasEffect, acts_has}

-- a value does one thing in a state
pub acts_once : (s next next' : State) (value : ℕ) (spelled spelled' : List Element) → Acts s value next spelled → Acts s value next' spelled' → (next ≡ next') × (spelled ≡ spelled')
acts_once s next next' value spelled spelled' former latter =
    let a : HasEffect s value next spelled = acts_has former in
    let b : HasEffect s value next' spelled' = acts_has latter in
    let same : a.effect ≡ b.effect = let e : Some a.effect ≡ Some b.effect = sym a.acts ∙ b.acts in cc in
    (sym a.leads ∙ ap (λ (e : Effect). e.next) same ∙ b.leads, sym a.spells ∙ ap (λ (e : Effect). spelled_elements e.spelled) same ∙ b.spells)

-- values spell one list of elements from a state on
pub spells_once : {s s' : State} {values values' : List ℕ} {es es' : List Element} → ValuesSpell s values es → ValuesSpell s' values' es' → s ≡ s' → values ≡ values' → es ≡ es'
spells_once (ended free) (ended free') at same = refl
spells_once (ended free) (onward acts' spells') at same = absurd (cc)
spells_once (onward acts spells) (ended free') at same = absurd (cc)
spells_once {s = s} {s' = s'} (onward {next = n} {value = v} {values = vs} {spelled = front} {elements = rest} acts spells)
    (onward {next = n'} {value = v'} {values = vs'} {spelled = front'} {elements = rest'} acts' spells') at same =
    let value_same : v ≡ v' = cc in
    let values_same : vs ≡ vs' = cc in
    let again : Acts s v n' front' = subst (λ (x : ℕ). Acts s x n' front') (sym value_same) (subst (λ (x : State). Acts x v' n' front') (sym at) acts') in
    let (next_same, front_same) = acts_once s n n' v front front' acts again in
    let rest_same : rest ≡ rest' = spells_once spells spells' next_same values_same in
    cc
