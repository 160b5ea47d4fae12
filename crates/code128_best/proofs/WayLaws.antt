-- From the start to the whole.
use Rattle.std.proofs.Common.{◌≡◌, ◌⊎◌, inl, inr, ℕ, ◌+◌, ◌*◌, ◌<◌, ◌≤◌, List, [], ◌∷◌, ◌++◌, length, All, Some, None, ◌==◌, refl, sym, ap, subst, ◌∙◌, arith, append_assoc}
use Rattle.std.proofs.lemmas.Bool.{cond-true, cond-false, cases_Bool, cases_order, cases_lt, eqb-true}
use Rattle.std.proofs.lemmas.List.{length-append, append-nil}
use Rattle.std.proofs.lemmas.List.Elements.{All-cons, All-nil, All-append}
use Rattle.bar_base.specs.declared.element.Element.{Element}
use Rattle.bar_base.specs.Elements.{IsElement}
use Rattle.code128_best.specs.declared.state.CodeSet.{CodeSet}
use Rattle.code128_best.specs.declared.state.CodeSet.TheVariants.{A, B, C}
use Rattle.code128_best.specs.declared.state.State.{State}
use Rattle.code128_best.specs.declared.stepping.Stand.{Stand}
use Rattle.code128_best.specs.Spelling.{ValuesSpell, SymbolSpells, begun, plain, state_after_start, AreFirstValues, AreDrawnValues, ValuesPrecede, differ, IsCode128Element}
use Rattle.code128_best.specs.Steps.{kept_values, values_through, value_step, beginning}
use Rattle.code128_best.specs.Costs.{IsSettled}
use Rattle.code128_best.specs.Picks.{IsPick, IsBestStart, IsOnWay, AreWholeValues}
use Rattle.code128_best.proofs.StepLaws.{step_within}
use Rattle.code128_best.proofs.BoundLaws.{spelled_from_b}
use Rattle.code128_best.proofs.Order.{ValuesPrecede-behind, ValuesPrecede-antisym}
use Rattle.code128_best.proofs.PickLaws.{through_step, cost_least, pick_first, end_first}

-- the three starts
pub start_is : (start : ℕ) (state : State) → state_after_start start ≡ Some state
    → ((start ≡ 103) × (state ≡ plain A)) ⊎ ((start ≡ 104) × (state ≡ plain B)) ⊎ ((start ≡ 105) × (state ≡ plain C))
unfolding state_after_start
start_is start state h =
    elim (cases_Bool (start == 103)) [
      | inl is_a ↦ inl (eqb-true start 103 is_a, let e : Some (plain A) ≡ Some state = sym (cond-true (start == 103) (Some (plain A)) _ is_a) ∙ h in cc)
      | inr no_a ↦ elim (cases_Bool (start == 104)) [
        | inl is_b ↦ inr (inl (
          eqb-true start 104 is_b,
          let e : Some (plain B) ≡ Some state = sym (cond-true (start == 104) (Some (plain B)) _ is_b) ∙ sym (cond-false (start == 103) (Some (plain A)) _ no_a) ∙ h in cc,
        ))
        | inr no_b ↦ elim (cases_Bool (start == 105)) [
          | inl is_c ↦ inr (inr (
            eqb-true start 105 is_c,
            let e : Some (plain C) ≡ Some state =
                sym (cond-true (start == 105) (Some (plain C)) _ is_c) ∙ sym (cond-false (start == 104) (Some (plain B)) _ no_b) ∙ sym (cond-false (start == 103) (Some (plain A)) _ no_a) ∙ h in cc,
          ))
          | inr no_c ↦ absurd (
              let e : None ≡ Some state =
              sym (cond-false (start == 105) (Some (plain C)) None no_c) ∙ sym (cond-false (start == 104) (Some (plain B)) _ no_b) ∙ sym (cond-false (start == 103) (Some (plain A)) _ no_a) ∙ h in cc)
        ]
      ]
    ]

pub best_of : (table : List ℕ) (start : ℕ) (set : CodeSet) → state_after_start start ≡ Some (plain set)
    → kept_values table (beginning (plain set)) ≤ kept_values table (beginning (plain A)) → kept_values table (beginning (plain set)) ≤ kept_values table (beginning (plain B))
    → kept_values table (beginning (plain set)) ≤ kept_values table (beginning (plain C))
    → (103 < start → kept_values table (beginning (plain set)) < kept_values table (beginning (plain A)))
    → (104 < start → kept_values table (beginning (plain set)) < kept_values table (beginning (plain B))) → start < 106 → IsBestStart table start (plain set)
best_of table start set is a b c before_a before_b last = record {
  is = is;
  least = λ other others h.
      elim (start_is other others h) [
        | inl (_, e) ↦ subst (λ (s : State). kept_values table (beginning (plain set)) ≤ kept_values table (beginning s)) (sym e) a
        | inr (inl (_, e)) ↦ subst (λ (s : State). kept_values table (beginning (plain set)) ≤ kept_values table (beginning s)) (sym e) b
        | inr (inr (_, e)) ↦ subst (λ (s : State). kept_values table (beginning (plain set)) ≤ kept_values table (beginning s)) (sym e) c
      ];
  earlier = λ other others less h.
      elim (start_is other others h) [
        | inl (n, e) ↦ subst (λ (s : State). kept_values table (beginning (plain set)) < kept_values table (beginning s)) (sym e) (before_a (omega arith))
        | inr (inl (n, e)) ↦ subst (λ (s : State). kept_values table (beginning (plain set)) < kept_values table (beginning s)) (sym e) (before_b (omega arith))
        | inr (inr (n, e)) ↦ absurd (omega arith)
      ];
}

pub way_start : (table : List ℕ) (es : List Element) (start : ℕ) (state : State) → start ≤ 105 → kept_values table (beginning state) < 1000
    → IsOnWay table es start state (start ∷ []) (beginning state)
unfolding beginning
way_start table es start state small known = record {
  within = omega arith;
  known = known;
  path = [];
  is = refl;
  counted = omega arith;
  small = All-cons (λ value. value ≤ 105) start [] small (All-nil (λ value. value ≤ 105));
  first = λ rest first. first;
}

pub way_more : (table : List ℕ) (es : List Element) → IsSettled table es → (start : ℕ) (state : State) (values : List ℕ) (at next : Stand) (value : ℕ)
    → IsOnWay table es start state values at → 0 < kept_values table at → IsPick table es at value → value_step es at value ≡ Some next
    → IsOnWay table es start state (values ++ value ∷ []) next
way_more table es settled start state values at next value way some pick steps =
    let cost_here : values_through table es at value ≡ 1 + kept_values table next = through_step table es at next value steps in
    let cheap = pick.cheapest in
    let known = way.known in
    record {
      within = step_within es at value next way.within steps;
      known = omega arith;
      path = way.path ++ value ∷ [];
      is = ap (λ (xs : List ℕ). xs ++ value ∷ []) way.is;
      counted = omega (arith, length-append way.path (value ∷ []), way.counted);
      small = All-append (λ v. v ≤ 105) values (value ∷ []) way.small (All-cons (λ v. v ≤ 105) value [] (let below = pick.below in omega arith) (All-nil (λ v. v ≤ 105)));
      first = λ rest first.
          subst (λ (xs : List ℕ). AreFirstValues state es xs) (sym (append_assoc way.path (value ∷ []) rest))
          (way.first (value ∷ rest) (pick_first table es settled at next value rest way.within some way.known pick steps first));
    }

pub way_end : (table : List ℕ) (es : List Element) → IsSettled table es → (start : ℕ) (state : State) (values : List ℕ) (at : Stand)
    → IsOnWay table es start state values at → kept_values table at ≡ 0 → AreWholeValues table es start state values
way_end table es settled start state values at way none = record {
  path = way.path;
  is = way.is;
  counted = omega (arith, way.counted);
  small = way.small;
  first = subst (λ (xs : List ℕ). AreFirstValues state es xs) (append-nil way.path) (way.first [] (end_first table es settled at way.within none));
}

start_b : state_after_start 104 ≡ Some (plain B)
unfolding state_after_start
start_b = refl

-- the cost of the best start is small
pub best_small : (table : List ℕ) (es : List Element) → IsSettled table es → (start : ℕ) (state : State) → IsBestStart table start state → All IsElement es → All IsCode128Element es
    → kept_values table (beginning state) ≤ 3 * length es
unfolding beginning
best_small table es settled start state best valid spelled =
    let (values, spells, few) = spelled_from_b es valid spelled in
    omega (arith, best.least 104 (plain B) start_b, cost_least table es settled 0 (omega arith) spells refl)

drawn_before : (table : List ℕ) (es : List Element) → IsSettled table es → (start : ℕ) (state : State) (path : List ℕ) {others : List ℕ} {rest : List Element} → IsBestStart table start state
    → AreFirstValues state es path → length path ≡ kept_values table (beginning state) → SymbolSpells others rest → rest ≡ es → ValuesPrecede (start ∷ path) others
unfolding beginning
drawn_before table es settled start state path best first counted (begun {start = other} {state = others} {values = values} begins spells) same =
    let again : ValuesSpell others values es = subst (λ (xs : List Element). ValuesSpell others values xs) same spells in
    let least : kept_values table (beginning others) ≤ length values = cost_least table es settled 0 (omega arith) again refl in
    elim (cases_order start other) [
      | inl equal ↦
          let alike : others ≡ state = let e : Some others ≡ Some state = sym begins ∙ subst (λ (n : ℕ). state_after_start n ≡ Some state) equal best.is in cc in
          subst (λ (n : ℕ). ValuesPrecede (start ∷ path) (n ∷ values)) equal
          (ValuesPrecede-behind start path values (first.first values (subst (λ (s : State). ValuesSpell s values es) alike again)))
      | inr (inl less) ↦ elim (cases_lt (length path) (length values)) [
        | inl longer ↦ inl (omega arith)
        | inr no_longer ↦ inr (let l = best.least other others begins in omega arith, inr (differ less))
      ]
      | inr (inr more) ↦ inl (let l = best.earlier other others more begins in omega arith)
    ]

pub whole_drawn : (table : List ℕ) (es : List Element) → IsSettled table es → (start : ℕ) (state : State) (values : List ℕ) → IsBestStart table start state
    → AreWholeValues table es start state values → AreDrawnValues es values
whole_drawn table es settled start state values best whole =
    subst (λ (xs : List ℕ). AreDrawnValues es xs) (sym whole.is)
    (record {
      spelling = begun best.is whole.first.spells;
      first = λ others spelling. drawn_before table es settled start state whole.path best whole.first whole.counted spelling refl;
    })

-- all drawn values are the same
pub drawn_once : (es : List Element) (values others : List ℕ) → AreDrawnValues es values → AreDrawnValues es others → others ≡ values
drawn_once es values others drawn other = ValuesPrecede-antisym others values (other.first values drawn.spelling) (drawn.first others other.spelling)

pub start_small : (start : ℕ) (state : State) → state_after_start start ≡ Some state → start ≤ 105
start_small start state is = elim (start_is start state is) [ inl (e, _) ↦ omega arith | inr (inl (e, _)) ↦ omega arith | inr (inr (e, _)) ↦ omega arith ]

pub whole_few : (table : List ℕ) (es : List Element) (start : ℕ) (state : State) (values : List ℕ) → AreWholeValues table es start state values → kept_values table (beginning state) ≤ 768
    → (1 ≤ length values) × (length values ≤ 769)
whole_few table es start state values whole few =
    let e : length values ≡ length (start ∷ whole.path) = ap length whole.is in (omega (arith, whole.counted), omega (arith, whole.counted))
