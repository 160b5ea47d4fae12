-- The least cost by the kind of state.
use Rattle.std.proofs.Common.{◌≡◌, ◌⊎◌, inl, inr, ℕ, ◌+◌, ◌<◌, ◌≤◌, Bool, true, false, not, ◌==◌, cond, min, List, [], length, Option, Some, None, refl, sym, ap, ◌∙◌, arith}
use Rattle.bar_base.specs.declared.element.Element.{Element}
use Rattle.code128_best.specs.declared.state.CodeSet.{CodeSet}
use Rattle.code128_best.specs.declared.state.CodeSet.TheVariants.{A, B, C}
use Rattle.code128_best.specs.declared.state.State.{State}
use Rattle.code128_best.specs.declared.effect.Effect.{Effect}
use Rattle.code128_best.specs.declared.effect.Spelled.TheVariants.{Nothing}
use Rattle.code128_best.specs.declared.stepping.Stand.{Stand}
use Rattle.code128_best.specs.Values.{act_in_a, act_in_b, act_in_c, act_of, silent_if, fnc1_if, is_free, with_fnc4, spelled_count}
use Rattle.code128_best.specs.Steps.{stands_at, follow, value_step, is_end, kept_values, next_cost, values_through}
use Rattle.code128_best.specs.Own.{own_of}
use Rattle.code128_best.specs.Costs.{IsBest}
use Rattle.code128_best.proofs.StepLaws.{both}
use Rattle.code128_best.proofs.OwnLaws.{own_is, least_all, pair_or, none_dear}

abbrev made : (set : CodeSet) (latch fnc4 shift : Bool) → State
made set latch fnc4 shift = record { set = set; latch = latch; fnc4 = fnc4; shift = shift }

abbrev stand : (place : ℕ) → State → Stand
stand place s = record { place = place; state = s }

abbrev silently : State → Option Effect
silently next = Some (record { next = next; spelled = Nothing })

none_here : (table : List ℕ) (es : List Element) (place : ℕ) (s : State) (value : ℕ) → act_of s value ≡ None → 1000 ≡ values_through table es (stand place s) value
unfolding values_through value_step follow next_cost
none_here table es place s value acts = sym (ap (λ (o : Option Effect). next_cost table (follow es place o)) acts)

silent_here : (table : List ℕ) (es : List Element) (place : ℕ) (s next : State) (value cost : ℕ) → act_of s value ≡ silently next → cost ≡ 1 + kept_values table (stand place next)
    → cost ≡ values_through table es (stand place s) value
unfolding values_through value_step follow next_cost stands_at spelled_count
silent_here table es place s next value cost acts is =
    is ∙ ap (λ (p : ℕ). 1 + kept_values table (stand p next)) (let e : place ≡ place + 0 = omega arith in e)
    ∙ sym (ap (λ (o : Option Effect). next_cost table (follow es place o)) acts)

no_end : (es : List Element) (at : Stand) → (is_free at.state ≡ false) → IsBest [] es at 0 1000
unfolding is_end
no_end es at pending = record {
  small = omega arith;
  ended = λ h. absurd (let (place, free) = both (at.place == length es) (is_free at.state) h in let e : true ≡ false = sym free ∙ pending in cc);
  few = λ value below. absurd (omega arith);
  reached = inl refl;
}

pub best_shifted : (table : List ℕ) (es : List Element) (place : ℕ) (is_b latch fnc4 : Bool) (own best : ℕ)
    → own ≡ values_through table es (stand place (made (cond is_b B A) latch fnc4 true)) (own_of es (stand place (made (cond is_b B A) latch fnc4 true)))
    → best ≡ min own 1000 → IsBest table es (stand place (made (cond is_b B A) latch fnc4 true)) 103 best
unfolding act_of act_in_a act_in_b silent_if fnc1_if is_free
best_shifted table es place is_b latch fnc4 own best e is = by is_b fnc4 e where
  by : (is_b fnc4 : Bool) → own ≡ values_through table es (stand place (made (cond is_b B A) latch fnc4 true)) (own_of es (stand place (made (cond is_b B A) latch fnc4 true)))
      → IsBest table es (stand place (made (cond is_b B A) latch fnc4 true)) 103 best
  by true true e =
      let s = made B latch true true in
      let at = stand place s in
      least_all table es at (own_of es at) 1000 own 1000 1000 1000 1000 1000 best best best best best best (no_end es at refl) (own_is es at) e
      (none_here table es place s 98 refl) (none_here table es place s 99 refl) (none_here table es place s 100 refl) (none_here table es place s 101 refl) (none_here table es place s 102 refl)
      (omega arith) (omega arith) (omega arith) (omega arith) (omega arith) (omega arith)
  by true false e =
      let s = made B latch false true in
      let at = stand place s in
      least_all table es at (own_of es at) 1000 own 1000 1000 1000 1000 1000 best best best best best best (no_end es at refl) (own_is es at) e
      (none_here table es place s 98 refl) (none_here table es place s 99 refl) (none_here table es place s 100 refl) (none_here table es place s 101 refl) (none_here table es place s 102 refl)
      (omega arith) (omega arith) (omega arith) (omega arith) (omega arith) (omega arith)
  by false true e =
      let s = made A latch true true in
      let at = stand place s in
      least_all table es at (own_of es at) 1000 own 1000 1000 1000 1000 1000 best best best best best best (no_end es at refl) (own_is es at) e
      (none_here table es place s 98 refl) (none_here table es place s 99 refl) (none_here table es place s 100 refl) (none_here table es place s 101 refl) (none_here table es place s 102 refl)
      (omega arith) (omega arith) (omega arith) (omega arith) (omega arith) (omega arith)
  by false false e =
      let s = made A latch false true in
      let at = stand place s in
      least_all table es at (own_of es at) 1000 own 1000 1000 1000 1000 1000 best best best best best best (no_end es at refl) (own_is es at) e
      (none_here table es place s 98 refl) (none_here table es place s 99 refl) (none_here table es place s 100 refl) (none_here table es place s 101 refl) (none_here table es place s 102 refl)
      (omega arith) (omega arith) (omega arith) (omega arith) (omega arith) (omega arith)

pub best_fnc4 : (table : List ℕ) (es : List Element) (place : ℕ) (is_b latch : Bool) (own shift turned m0 m1 best : ℕ)
    → own ≡ values_through table es (stand place (made (cond is_b B A) latch true false)) (own_of es (stand place (made (cond is_b B A) latch true false)))
    → shift ≡ 1 + kept_values table (stand place (made (cond is_b B A) latch true true)) → turned ≡ 1 + kept_values table (stand place (made (cond is_b B A) (not latch) false false))
    → m0 ≡ min 1000 own → m1 ≡ min m0 shift → best ≡ min m1 turned → IsBest table es (stand place (made (cond is_b B A) latch true false)) 103 best
unfolding act_of act_in_a act_in_b silent_if fnc1_if is_free with_fnc4
best_fnc4 table es place true latch own shift turned m0 m1 best e e1 e2 i0 i1 i2 =
    let s = made B latch true false in
    let at = stand place s in
    least_all table es at (own_of es at) 1000 own shift 1000 turned 1000 1000 m0 m1 m1 best best best (no_end es at refl) (own_is es at) e
    (silent_here table es place s (made B latch true true) 98 shift refl e1) (none_here table es place s 99 refl)
    (silent_here table es place s (made B (not latch) false false) 100 turned refl e2) (none_here table es place s 101 refl) (none_here table es place s 102 refl)
    i0 i1 (omega arith) i2 (omega arith) (omega arith)
best_fnc4 table es place false latch own shift turned m0 m1 best e e1 e2 i0 i1 i2 =
    let s = made A latch true false in
    let at = stand place s in
    least_all table es at (own_of es at) 1000 own shift 1000 1000 turned 1000 m0 m1 m1 m1 best best (no_end es at refl) (own_is es at) e
    (silent_here table es place s (made A latch true true) 98 shift refl e1) (none_here table es place s 99 refl)
    (none_here table es place s 100 refl) (silent_here table es place s (made A (not latch) false false) 101 turned refl e2) (none_here table es place s 102 refl)
    i0 i1 (omega arith) (omega arith) i2 (omega arith)

to_c_here : (table : List ℕ) (es : List Element) (place : ℕ) (is_b latch : Bool) (cost : ℕ) → cost ≡ cond latch 1000 (1 + kept_values table (stand place (made C false false false)))
    → cost ≡ values_through table es (stand place (made (cond is_b B A) latch false false)) 99
unfolding act_of act_in_a act_in_b silent_if is_free
to_c_here table es place true true cost is = is ∙ none_here table es place (made B true false false) 99 refl
to_c_here table es place false true cost is = is ∙ none_here table es place (made A true false false) 99 refl
to_c_here table es place true false cost is = silent_here table es place (made B false false false) (made C false false false) 99 cost refl is
to_c_here table es place false false cost is = silent_here table es place (made A false false false) (made C false false false) 99 cost refl is

pub best_free : (table : List ℕ) (es : List Element) (place : ℕ) (is_b latch : Bool) (end own shift to_c by_100 by_101 fnc1 m0 m1 m2 m3 m4 best : ℕ)
    → IsBest [] es (stand place (made (cond is_b B A) latch false false)) 0 end
    → own ≡ values_through table es (stand place (made (cond is_b B A) latch false false)) (own_of es (stand place (made (cond is_b B A) latch false false)))
    → shift ≡ 1 + kept_values table (stand place (made (cond is_b B A) latch false true))
    → to_c ≡ cond latch 1000 (1 + kept_values table (stand place (made C false false false)))
    → by_100 ≡ 1 + kept_values table (stand place (made B latch is_b false))
    → by_101 ≡ 1 + kept_values table (stand place (made A latch (not is_b) false))
    → fnc1 ≡ values_through table es (stand place (made (cond is_b B A) latch false false)) 102
    → m0 ≡ min end own → m1 ≡ min m0 shift → m2 ≡ min m1 to_c → m3 ≡ min m2 by_100 → m4 ≡ min m3 by_101 → best ≡ min m4 fnc1
    → IsBest table es (stand place (made (cond is_b B A) latch false false)) 103 best
unfolding act_of act_in_a act_in_b silent_if is_free with_fnc4
best_free table es place true latch end own shift to_c by_100 by_101 fnc1 m0 m1 m2 m3 m4 best b e e1 e2 e3 e4 e5 i0 i1 i2 i3 i4 i5 =
    let s = made B latch false false in
    let at = stand place s in
    least_all table es at (own_of es at) end own shift to_c by_100 by_101 fnc1 m0 m1 m2 m3 m4 best b (own_is es at) e
    (silent_here table es place s (made B latch false true) 98 shift refl e1) (to_c_here table es place true latch to_c e2)
    (silent_here table es place s (made B latch true false) 100 by_100 refl e3) (silent_here table es place s (made A latch false false) 101 by_101 refl e4) e5 i0 i1 i2 i3 i4 i5
best_free table es place false latch end own shift to_c by_100 by_101 fnc1 m0 m1 m2 m3 m4 best b e e1 e2 e3 e4 e5 i0 i1 i2 i3 i4 i5 =
    let s = made A latch false false in
    let at = stand place s in
    least_all table es at (own_of es at) end own shift to_c by_100 by_101 fnc1 m0 m1 m2 m3 m4 best b (own_is es at) e
    (silent_here table es place s (made A latch false true) 98 shift refl e1) (to_c_here table es place false latch to_c e2)
    (silent_here table es place s (made B latch false false) 100 by_100 refl e3) (silent_here table es place s (made A latch true false) 101 by_101 refl e4) e5 i0 i1 i2 i3 i4 i5

-- a pair costs what the own one costs, or has no cost
record Pair (table : List ℕ) (es : List Element) (at : Stand) (own value : ℕ) : Type 0 where
  pub cost : ℕ
  pub is : cost ≡ values_through table es at value
  pub high : (cost ≡ 1000) ⊎ (cost ≡ own)

pair_here : (table : List ℕ) (es : List Element) (place : ℕ) (latch fnc4 shift : Bool) (own value : ℕ)
    → own ≡ values_through table es (stand place (made C latch fnc4 shift)) (own_of es (stand place (made C latch fnc4 shift))) → value < 100
    → Pair table es (stand place (made C latch fnc4 shift)) own value
pair_here table es place latch fnc4 shift own value e below =
    elim (pair_or es place latch fnc4 shift value below) [
      | inl same ↦ record { cost = own; is = e ∙ ap (λ (v : ℕ). values_through table es (stand place (made C latch fnc4 shift)) v) (sym same); high = inr refl }
      | inr none ↦ record { cost = 1000; is = sym (none_dear table es (stand place (made C latch fnc4 shift)) value none); high = inl refl }
    ]

stays : (m cost own : ℕ) → m ≤ 1000 → m ≤ own → (cost ≡ 1000) ⊎ (cost ≡ own) → m ≡ min m cost
stays m cost own small low (inl none) = omega arith
stays m cost own small low (inr same) = omega arith

pub best_pairs : (table : List ℕ) (es : List Element) (place : ℕ) (latch fnc4 shift : Bool) (end own by_100 by_101 fnc1 m0 m1 m2 best : ℕ)
    → IsBest [] es (stand place (made C latch fnc4 shift)) 0 end
    → own ≡ values_through table es (stand place (made C latch fnc4 shift)) (own_of es (stand place (made C latch fnc4 shift)))
    → by_100 ≡ 1 + kept_values table (stand place (made B latch fnc4 shift))
    → by_101 ≡ 1 + kept_values table (stand place (made A latch fnc4 shift))
    → fnc1 ≡ values_through table es (stand place (made C latch fnc4 shift)) 102
    → m0 ≡ min end own → m1 ≡ min m0 by_100 → m2 ≡ min m1 by_101 → best ≡ min m2 fnc1
    → IsBest table es (stand place (made C latch fnc4 shift)) 103 best
unfolding act_of act_in_c silent_if
best_pairs table es place latch fnc4 shift end own by_100 by_101 fnc1 m0 m1 m2 best b e e3 e4 e5 i0 i3 i4 i5 =
    let s = made C latch fnc4 shift in
    let at = stand place s in
    let p98 = pair_here table es place latch fnc4 shift own 98 e (omega arith) in
    let p99 = pair_here table es place latch fnc4 shift own 99 e (omega arith) in
    let end_small = b.small in
    least_all table es at (own_of es at) end own p98.cost p99.cost by_100 by_101 fnc1 m0 m0 m0 m1 m2 best b (own_is es at) e p98.is p99.is
    (silent_here table es place s (made B latch fnc4 shift) 100 by_100 refl e3) (silent_here table es place s (made A latch fnc4 shift) 101 by_101 refl e4) e5
    i0 (stays m0 p98.cost own (omega arith) (omega arith) p98.high) (stays m0 p99.cost own (omega arith) (omega arith) p99.high) i3 i4 i5
