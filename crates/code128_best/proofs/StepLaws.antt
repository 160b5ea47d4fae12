-- Steps from stand to stand against what values spell.
use Rattle.std.proofs.Common.{◌≡◌, inl, inr, ℕ, zero, suc, ◌+◌, ◌≤◌, Bool, true, false, ◌&&◌, List, [], ◌∷◌, ◌++◌, length, drop, Option, Some, None, slice_get, refl, sym, ap, ◌∙◌, arith, eq-eqb, drop_at}
use Rattle.std.proofs.lemmas.Bool.{cond-true, cond-false, eqb-true, cases_Bool}
use Rattle.std.proofs.lemmas.List.{length-append, length-drop, drop-drop}
use Rattle.bar_base.proofs.ListLemmas.{drop_here}
use Rattle.bar_base.specs.declared.element.Element.{Element}
use Rattle.bar_base.specs.declared.element.Element.TheVariants as element
use Rattle.code128_best.specs.declared.effect.Spelled.{Spelled}
use Rattle.code128_best.specs.declared.effect.Spelled.TheVariants.{Nothing, Character, Digits, Fnc1}
use Rattle.code128_best.specs.declared.effect.Effect.{Effect}
use Rattle.code128_best.specs.declared.stepping.Stand.{Stand}
use Rattle.code128_best.specs.Values.{act_of, spelled_elements, spelled_count}
use Rattle.code128_best.specs.Steps.{is_byte, is_fnc1_element, stands_at, follow, value_step}

slice_get-zero : (es : List Element) (place : ℕ) → slice_get es place ≡ slice_get (drop place es) 0
slice_get-zero es zero = refl
slice_get-zero [] (suc place) = refl
slice_get-zero (x ∷ es) (suc place) = slice_get-zero es place

slice_get-one : (es : List Element) (place : ℕ) → slice_get es (place + 1) ≡ slice_get (drop place es) 1
slice_get-one es zero = refl
slice_get-one [] (suc place) = refl
slice_get-one (x ∷ es) (suc place) = ap (slice_get (x ∷ es)) (let e : suc place + 1 ≡ suc (place + 1) = omega arith in e) ∙ slice_get-one es place

pub byte_is : (o : Option Element) (byte : ℕ) → is_byte o byte ≡ true → o ≡ Some (element.Byte byte)
unfolding is_byte
byte_is None byte h = absurd (cc)
byte_is (Some (element.Byte other)) byte h = ap (λ (b : ℕ). Some (element.Byte b)) (sym (eqb-true byte other h))
byte_is (Some (element.Eci number)) byte h = absurd (cc)
byte_is (Some element.Fnc1) byte h = absurd (cc)

byte_has : (byte : ℕ) → is_byte (Some (element.Byte byte)) byte ≡ true
unfolding is_byte
byte_has byte = eq-eqb byte byte refl

fnc1_is : (o : Option Element) → is_fnc1_element o ≡ true → o ≡ Some element.Fnc1
unfolding is_fnc1_element
fnc1_is None h = absurd (cc)
fnc1_is (Some (element.Byte other)) h = absurd (cc)
fnc1_is (Some (element.Eci number)) h = absurd (cc)
fnc1_is (Some element.Fnc1) h = refl

pub both : (a b : Bool) → (a && b) ≡ true → (a ≡ true) × (b ≡ true)
both true b h = (refl, h)
both false b h = absurd (cc)

-- what stands at a place is in front of the rest
pub stands_splits : (spelled : Spelled) (es : List Element) (place : ℕ) → stands_at spelled es place ≡ true
    → drop place es ≡ spelled_elements spelled ++ drop (place + spelled_count spelled) es
unfolding stands_at spelled_elements spelled_count
stands_splits Nothing es place h = ap (λ (n : ℕ). drop n es) (let e : place ≡ place + 0 = omega arith in e)
stands_splits (Character byte) es place h = drop_here es place (element.Byte byte) (byte_is (slice_get es place) byte h)
stands_splits (Digits a b) es place h =
    let (first, second) = both (is_byte (slice_get es place) a) (is_byte (slice_get es (place + 1)) b) h in
    drop_here es place (element.Byte a) (byte_is (slice_get es place) a first)
    ∙ ap (λ (xs : List Element). element.Byte a ∷ xs) (drop_here es (place + 1) (element.Byte b) (byte_is (slice_get es (place + 1)) b second)
    ∙ ap (λ (n : ℕ). element.Byte b ∷ drop n es) (let e : place + 1 + 1 ≡ place + 2 = omega arith in e))
stands_splits Fnc1 es place h = drop_here es place element.Fnc1 (fnc1_is (slice_get es place) h)

-- and what is in front of the rest stands there
pub splits_stands : (spelled : Spelled) (es rest : List Element) (place : ℕ) → drop place es ≡ spelled_elements spelled ++ rest → stands_at spelled es place ≡ true
unfolding stands_at spelled_elements is_fnc1_element
splits_stands Nothing es rest place h = refl
splits_stands (Character byte) es rest place h =
    ap (λ (o : Option Element). is_byte o byte) (slice_get-zero es place ∙ ap (λ (xs : List Element). slice_get xs 0) h) ∙ byte_has byte
splits_stands (Digits a b) es rest place h =
    ap (λ (o : Option Element). is_byte o a && is_byte (slice_get es (place + 1)) b) (slice_get-zero es place ∙ ap (λ (xs : List Element). slice_get xs 0) h)
    ∙ ap (λ (t : Bool). t && is_byte (slice_get es (place + 1)) b) (byte_has a)
    ∙ ap (λ (o : Option Element). is_byte o b) (slice_get-one es place ∙ ap (λ (xs : List Element). slice_get xs 1) h) ∙ byte_has b
splits_stands Fnc1 es rest place h = ap is_fnc1_element (slice_get-zero es place ∙ ap (λ (xs : List Element). slice_get xs 0) h)

elements_of-length : (spelled : Spelled) → length (spelled_elements spelled) ≡ spelled_count spelled
unfolding spelled_elements spelled_count
elements_of-length Nothing = refl
elements_of-length (Character byte) = refl
elements_of-length (Digits a b) = refl
elements_of-length Fnc1 = refl

-- what follows is the rest from the next place on
pub rest_after : (spelled : Spelled) (es rest : List Element) (place : ℕ) → drop place es ≡ spelled_elements spelled ++ rest → rest ≡ drop (place + spelled_count spelled) es
rest_after spelled es rest place h =
    sym (drop_at (spelled_elements spelled) rest (spelled_count spelled) (elements_of-length spelled)) ∙ sym (ap (drop (spelled_count spelled)) h) ∙ drop-drop (spelled_count spelled) place es

-- A step: the value's effect, and what it spells in front of the rest.
pub record IsStep (es : List Element) (at : Stand) (value : ℕ) (next : Stand) : Type 0 where
  pub effect : Effect
  pub acts : act_of at.state value ≡ Some effect
  pub leads : next ≡ record { place = at.place + spelled_count effect.spelled; state = effect.next }
  pub splits : drop at.place es ≡ spelled_elements effect.spelled ++ drop (at.place + spelled_count effect.spelled) es

follow_is : (es : List Element) (at : Stand) (value : ℕ) (o : Option Effect) (next : Stand) → act_of at.state value ≡ o → follow es at.place o ≡ Some next → IsStep es at value next
unfolding follow
follow_is es at value None next acts h = absurd (cc)
follow_is es at value (Some effect) next acts h =
    let there : Stand = record { place = at.place + spelled_count effect.spelled; state = effect.next } in
    elim (cases_Bool (stands_at effect.spelled es at.place)) [
      | inl stands ↦
          let e : Some there ≡ Some next = sym (cond-true (stands_at effect.spelled es at.place) (Some there) None stands) ∙ h in
          record { effect = effect; acts = acts; leads = cc; splits = stands_splits effect.spelled es at.place stands }
      | inr apart ↦ absurd (let e : None ≡ Some next = sym (cond-false (stands_at effect.spelled es at.place) (Some there) None apart) ∙ h in cc)
    ]

pub step_is : (es : List Element) (at : Stand) (value : ℕ) (next : Stand) → value_step es at value ≡ Some next → IsStep es at value next
unfolding value_step
step_is es at value next h = follow_is es at value (act_of at.state value) next refl h

-- a value that spells what is in front steps over it
pub steps_from : (es rest : List Element) (at : Stand) (value : ℕ) (effect : Effect) → act_of at.state value ≡ Some effect → drop at.place es ≡ spelled_elements effect.spelled ++ rest
    → value_step es at value ≡ Some (record { place = at.place + spelled_count effect.spelled; state = effect.next })
unfolding value_step follow
steps_from es rest at value effect acts splits =
    ap (follow es at.place) acts
    ∙ cond-true (stands_at effect.spelled es at.place) (Some (record { place = at.place + spelled_count effect.spelled; state = effect.next })) None
    (splits_stands effect.spelled es rest at.place splits)

-- the next place is within
pub step_within : (es : List Element) (at : Stand) (value : ℕ) (next : Stand) → at.place ≤ length es → value_step es at value ≡ Some next → next.place ≤ length es
step_within es at value next within h =
    let step = step_is es at value next h in
    let place : next.place ≡ at.place + spelled_count step.effect.spelled = ap (λ (s : Stand). s.place) step.leads in
    omega (arith, ap length step.splits, length-append (spelled_elements step.effect.spelled) (drop (at.place + spelled_count step.effect.spelled) es), length-drop at.place es, elements_of-length step.effect.spelled)
