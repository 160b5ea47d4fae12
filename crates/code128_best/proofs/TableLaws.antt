-- The table of costs.
use Rattle.std.proofs.Common.{◌≡◌, ◌⊎◌, inl, inr, ℕ, ◌+◌, ◌*◌, ◌<◌, ◌≤◌, ◌/◌, ◌%◌, Bool, true, false, List, [], ◌∷◌, length, drop, set, get_or, min, sum, cond, replicate, slice_index, ◌&&◌, ◌||◌, ◌==◌, Option, Some, None, refl, sym, ap, subst, ◌∙◌, arith}
use Rattle.std.proofs.lemmas.List.{length-set, get_or-set_same, get_or-set_other, get_or-replicate, get_or_past, length-replicate, drop_all}
use Rattle.std.proofs.lemmas.List.Sums.{sum_by-set}
use Rattle.std.specs.Bool.{OnTrue, OnFalse}
use Rattle.std.proofs.lemmas.Bool.{cases_eq, cases_lt, eqb-true}
use Rattle.bar_base.specs.declared.element.Element.{Element}
use Rattle.code128_best.specs.declared.state.CodeSet.{CodeSet}
use Rattle.code128_best.specs.declared.state.CodeSet.TheVariants.{A, B, C}
use Rattle.code128_best.specs.declared.state.State.{State}
use Rattle.code128_best.specs.declared.stepping.Stand.{Stand}
use Rattle.code128_best.specs.States.{set_number, state_number, numbered_set, numbered_state}
use Rattle.code128_best.specs.Spelling.{ValuesSpell, ended, onward}
use Rattle.code128_best.specs.Steps.{is_end, stand_of, kept_values, next_cost, values_through, value_step}
use Rattle.code128_best.specs.Values.{is_free, spelled_count}
use Rattle.code128_best.specs.Costs.{IsReached, IsTable, IsBest, IsStable, IsStableAt, IsSettled}
use Rattle.code128_best.proofs.RuleLaws.{effect_acts}
use Rattle.code128_best.proofs.StepLaws.{step_is, step_within}

set_small : (set : CodeSet) → set_number set < 3
unfolding set_number
set_small A = omega arith
set_small B = omega arith
set_small C = omega arith

bit_small : (b : Bool) (n : ℕ) → cond b n 0 ≤ n
bit_small true n = omega arith
bit_small false n = omega arith

number_small : (s : State) → state_number s < 24
unfolding state_number
number_small s = omega (arith, set_small s.set, bit_small s.latch 4, bit_small s.fnc4 2, bit_small s.shift 1)

back : (set : CodeSet) (latch fnc4 shift : Bool) → numbered_state (state_number (record { set = set; latch = latch; fnc4 = fnc4; shift = shift })) ≡ record { set = set; latch = latch; fnc4 = fnc4; shift = shift }
unfolding numbered_state state_number set_number numbered_set
back A false false false = refl
back A false false true = refl
back A false true false = refl
back A false true true = refl
back A true false false = refl
back A true false true = refl
back A true true false = refl
back A true true true = refl
back B false false false = refl
back B false false true = refl
back B false true false = refl
back B false true true = refl
back B true false false = refl
back B true false true = refl
back B true true false = refl
back B true true true = refl
back C false false false = refl
back C false false true = refl
back C false true false = refl
back C false true true = refl
back C true false false = refl
back C true false true = refl
back C true true false = refl
back C true true true = refl

-- the stand at a stand's index
pub stand_back : (at : Stand) → stand_of (24 * at.place + state_number at.state) ≡ at
unfolding stand_of
stand_back at =
    let small = number_small at.state in
    let whole : (24 * at.place + state_number at.state) / 24 ≡ at.place = omega arith in
    let part : (24 * at.place + state_number at.state) % 24 ≡ state_number at.state = omega arith in
    ap (λ (p : ℕ). let stand : Stand = record { place = p; state = numbered_state ((24 * at.place + state_number at.state) % 24) } in stand) whole
    ∙ ap (λ (n : ℕ). let stand : Stand = record { place = at.place; state = numbered_state n } in stand) part
    ∙ ap (λ (s : State). let stand : Stand = record { place = at.place; state = s } in stand) (back at.state.set at.state.latch at.state.fnc4 at.state.shift)

pub index_within : (n : ℕ) (at : Stand) → at.place ≤ n → 24 * at.place + state_number at.state < 24 * (n + 1)
index_within n at within = let small = number_small at.state in omega arith

-- the cost kept for a stand is reached
pub table_reached : (table : List ℕ) (es : List Element) → IsTable table es → (at : Stand) → at.place ≤ length es → IsReached es at (kept_values table at)
unfolding kept_values
table_reached table es t at within =
    let inside = index_within (length es) at within in
    subst (λ (x : Stand). IsReached es x (slice_index table (24 * at.place + state_number at.state))) (stand_back at)
    (t.reached (24 * at.place + state_number at.state) (omega (arith, t.room)))

both : (a b : Bool) → (a && b) ≡ true → (a ≡ true) × (b ≡ true)
both true b h = (refl, h)
both false b h = absurd (cc)

or_true : (b : Bool) → (b || true) ≡ true
or_true true = refl
or_true false = refl

end_is : (es : List Element) (at : Stand) → is_end es at ≡ true → (at.place ≡ length es) × (is_free at.state ≡ true)
unfolding is_end
end_is es at h = let (place, free) = both (at.place == length es) (is_free at.state) h in (eqb-true at.place (length es) place, free)

spells_end : (es : List Element) (at : Stand) → is_end es at ≡ true → ValuesSpell at.state [] (drop at.place es)
spells_end es at h =
    let (place, free) = end_is es at h in
    subst (λ (xs : List Element). ValuesSpell at.state [] xs) (sym (drop_all at.place es (omega arith))) (ended free)

-- one value more in front
pub spells_more : (es : List Element) (at next : Stand) (value : ℕ) (values : List ℕ) → value_step es at value ≡ Some next → ValuesSpell next.state values (drop next.place es)
    → ValuesSpell at.state (value ∷ values) (drop at.place es)
spells_more es at next value values h spells =
    let step = step_is es at value next h in
    let after : Stand = record { place = at.place + spelled_count step.effect.spelled; state = step.effect.next } in
    subst (λ (xs : List Element). ValuesSpell at.state (value ∷ values) xs) (sym step.splits)
    (onward (effect_acts at.state value step.effect step.acts) (subst (λ (s : Stand). ValuesSpell s.state values (drop s.place es)) step.leads spells))

through_reached : (table : List ℕ) (es : List Element) → IsTable table es → (at : Stand) (value : ℕ) → at.place ≤ length es → (best : ℕ) → best ≤ 1000
    → (o : Option Stand) → value_step es at value ≡ o → best ≡ next_cost table o → IsReached es at best
unfolding next_cost
through_reached table es t at value within best small None h is = inl is
through_reached table es t at value within best small (Some next) h is =
    elim (table_reached table es t next (step_within es at value next within h)) [
      | inl none ↦ absurd (omega arith)
      | inr (values, spells, counted) ↦ inr (value ∷ values, spells_more es at next value values h spells, omega arith)
    ]

pub best_reached : (table : List ℕ) (es : List Element) → IsTable table es → (at : Stand) → at.place ≤ length es → (best : ℕ) → IsBest table es at 103 best → IsReached es at best
unfolding values_through
best_reached table es t at within best b =
    elim b.reached [
      | inl none ↦ inl none
      | inr (inl (at_end, zero_cost)) ↦ inr ([], spells_end es at at_end, sym zero_cost)
      | inr (inr (value, below, is)) ↦ through_reached table es t at value within best b.small (value_step es at value) refl is
    ]

-- the loop over values
pub best_start : (table : List ℕ) (es : List Element) (at : Stand) (best : ℕ) → IsBest [] es at 0 best → IsBest table es at 0 best
best_start table es at best b = record {
  small = b.small;
  ended = b.ended;
  few = λ value below. absurd (omega arith);
  reached = elim b.reached [ inl none ↦ inl none | inr (inl at_end) ↦ inr (inl at_end) | inr (inr (value, below, is)) ↦ absurd (omega arith) ];
}

min_is : (a b : ℕ) → (min a b ≡ a) ⊎ (min a b ≡ b)
min_is a b = grind arith

below_or_at : (j n : ℕ) → j < n + 1 → (j < n) ⊎ (j ≡ n)
below_or_at j n below = grind arith

pub best_more : (table : List ℕ) (es : List Element) (at : Stand) (value best more next : ℕ) → IsBest table es at value best → more ≡ values_through table es at value → next ≡ min best more
    → IsBest table es at (value + 1) next
best_more table es at value best more next b is least = record {
  small = let s = b.small in omega arith;
  ended = λ h. let z = b.ended h in omega arith;
  few = λ other below.
      elim (below_or_at other value below) [
        | inl less ↦ let f = b.few other less in omega arith
        | inr here ↦ subst (λ (v : ℕ). next ≤ values_through table es at v) (sym here) (omega arith)
      ];
  reached =
      elim (min_is best more) [
        | inl kept ↦ let same : best ≡ next = sym (least ∙ kept) in
            subst (λ (c : ℕ). (c ≡ 1000) ⊎ ((is_end es at ≡ true) × (c ≡ 0)) ⊎ ((v : ℕ) × (v < value + 1) × (c ≡ values_through table es at v))) same
            (elim b.reached as (λ _. (best ≡ 1000) ⊎ ((is_end es at ≡ true) × (best ≡ 0)) ⊎ ((v : ℕ) × (v < value + 1) × (best ≡ values_through table es at v)))
            [ inl none ↦ inl none | inr (inl at_end) ↦ inr (inl at_end) | inr (inr (v, below, here)) ↦ inr (inr (v, omega arith, here)) ])
        | inr new ↦ inr (inr (value, omega arith, least ∙ new ∙ is))
      ];
}

-- one cost lower
pub table_lower : (table : List ℕ) (es : List Element) (index best : ℕ) → IsTable table es → index < length table → IsBest table es (stand_of index) 103 best → IsTable (set table index best) es
unfolding stand_of
table_lower table es index best t inside b = record {
  room = length-set table index best ∙ t.room;
  small = λ other.
      elim (cases_eq index other) [
        | inl same ↦ subst (λ (i : ℕ). get_or (set table index best) i 0 ≤ 1000) same (subst (λ (c : ℕ). c ≤ 1000) (sym (get_or-set_same table index best 0 inside)) b.small)
        | inr apart ↦ subst (λ (c : ℕ). c ≤ 1000) (sym (get_or-set_other table index other best 0 (λ e. apart (sym e)))) (t.small other)
      ];
  reached = λ other within.
      elim (cases_eq index other) [
        | inl same ↦ subst (λ (i : ℕ). IsReached es (stand_of i) (get_or (set table index best) i 0)) same
            (subst (λ (c : ℕ). IsReached es (stand_of index) c) (sym (get_or-set_same table index best 0 inside))
            (best_reached table es t (stand_of index) (let room = t.room in omega arith) best b))
        | inr apart ↦ subst (λ (c : ℕ). IsReached es (stand_of other) c) (sym (get_or-set_other table index other best 0 (λ e. apart (sym e))))
            (t.reached other (omega (arith, length-set table index best)))
      ];
}

pub stand_within : (table : List ℕ) (es : List Element) (index : ℕ) → IsTable table es → index < length table → (stand_of index).place ≤ length es
unfolding stand_of
stand_within table es index t inside = let room = t.room in omega arith

pub sum_lower : (table : List ℕ) (index best : ℕ) → index < length table → best < get_or table index 0 → sum (set table index best) < sum table
sum_lower table index best inside less = omega (arith, sum_by-set (λ x. x) table index best 0 inside)

pub stable_here : (table : List ℕ) (es : List Element) (index best : ℕ) → IsBest table es (stand_of index) 103 best → get_or table index 0 ≤ best → IsStableAt table es index
stable_here table es index best b low = record {
  ended = λ h. let z = b.ended h in omega arith;
  few = λ value below. let f = b.few value below in omega arith;
}

-- the loop over the indices, from the last to the first
pub record IsSweptTo (old new : List ℕ) (es : List Element) (index : ℕ) (changed : Bool) : Type 0 where
  pub table : IsTable new es
  pub inside : index ≤ length new
  pub less : sum new ≤ sum old
  pub lowered : changed ≡ true → sum new < sum old
  pub stable : changed ≡ false → (other : ℕ) → index ≤ other → other < length new → IsStableAt new es other

pub swept_start : (table : List ℕ) (es : List Element) (index : ℕ) → IsTable table es → index ≡ length table → IsSweptTo table table es index false
swept_start table es index t is = record {
  table = t;
  inside = omega arith;
  less = omega arith;
  lowered = λ h. absurd (let e : false ≡ true = h in cc);
  stable = λ _ other low high. absurd (omega arith);
}

at_least : (j n : ℕ) → n ≤ j → (j ≡ n) ⊎ (n + 1 ≤ j)
at_least j n below = grind arith

pub swept_more : (old table new : List ℕ) (es : List Element) (index : ℕ) (changed lowered : Bool) → IsSweptTo old table es (index + 1) changed
    → IsTable new es → length new ≡ length table → OnTrue lowered (sum new < sum table) → OnFalse lowered (new ≡ table) → OnFalse lowered (IsStableAt new es index)
    → (after : Bool) → after ≡ (changed || lowered) → IsSweptTo old new es index after
swept_more old table new es index changed true s t long down stays stable after is = record {
  table = t;
  inside = let i = s.inside in omega arith;
  less = let l = s.less in omega arith;
  lowered = λ _. let l = s.less in omega arith;
  stable = λ h. absurd (let e : (changed || true) ≡ true = or_true changed in let f : true ≡ false = sym (is ∙ e) ∙ h in cc);
}
swept_more old table new es index true false s t long down stays stable after is = record {
  table = t;
  inside = let i = s.inside in omega arith;
  less = let l = s.less in let e = ap sum stays in omega arith;
  lowered = λ _. let l = s.lowered refl in let e = ap sum stays in omega arith;
  stable = λ h. absurd (let f : true ≡ false = sym is ∙ h in cc);
}
swept_more old table new es index false false s t long down stays stable after is = record {
  table = t;
  inside = let i = s.inside in omega arith;
  less = let l = s.less in let e = ap sum stays in omega arith;
  lowered = λ h. absurd (let f : false ≡ true = sym is ∙ h in cc);
  stable = λ _ other low high.
      elim (at_least other index low) [
        | inl here ↦ subst (λ (i : ℕ). IsStableAt new es i) (sym here) stable
        | inr later ↦ subst (λ (xs : List ℕ). IsStableAt xs es other) (sym stays) (s.stable refl other later (omega arith))
      ];
}

-- where all is stable, all is settled
settled_all : (old table : List ℕ) (es : List Element) → IsSweptTo old table es 0 false → IsSettled table es
unfolding kept_values
settled_all old table es s =
    let index_of : Stand → ℕ = λ at. 24 * at.place + state_number at.state in
    let inside : (at : Stand) → at.place ≤ length es → 24 * at.place + state_number at.state < length table =
    λ at within. let i = index_within (length es) at within in let room = s.table.room in omega arith in
    record {
      is_table = s.table;
      ended = λ at within h.
          (s.stable refl (24 * at.place + state_number at.state) (omega arith) (inside at within)).ended (subst (λ (x : Stand). is_end es x ≡ true) (sym (stand_back at)) h);
      few = λ at value within below.
          subst (λ (x : Stand). slice_index table (24 * at.place + state_number at.state) ≤ values_through table es x value) (stand_back at)
          ((s.stable refl (24 * at.place + state_number at.state) (omega arith) (inside at within)).few value below);
      reached = table_reached table es s.table;
    }

pub settled_when : (old table : List ℕ) (es : List Element) (index : ℕ) (changed : Bool) → IsSweptTo old table es index changed → index ≤ 0 → OnFalse changed (IsSettled table es)
settled_when old table es index true s none = tt
settled_when old table es index false s none =
    let e : index ≡ 0 = omega arith in settled_all old table es (subst (λ (i : ℕ). IsSweptTo old table es i false) e s)

small_start : (room index : ℕ) → slice_index (replicate room 1000) index ≤ 1000
small_start room index =
    elim (cases_lt index room) [
      | inl inside ↦ omega (arith, get_or-replicate {A = ℕ} room index 1000 0 inside)
      | inr past ↦ omega (arith, get_or_past {X = ℕ} (replicate room 1000) index 0 (omega (arith, length-replicate {A = ℕ} room 1000)))
    ]

-- the table without costs
pub table_start : (es : List Element) (room : ℕ) → room ≡ 24 * (length es + 1) → IsTable (replicate room 1000) es
table_start es room is = record {
  room = length-replicate {A = ℕ} room 1000 ∙ is;
  small = λ index. small_start room index;
  reached = λ index inside. inl (get_or-replicate room index 1000 0 (omega (arith, length-replicate {A = ℕ} room 1000)));
}

-- where each stand is stable, all is settled
pub settled_by : (table : List ℕ) (es : List Element) → IsTable table es → ((at : Stand) → at.place < length es + 1 → IsStable table es at) → IsSettled table es
settled_by table es t stable = record {
  is_table = t;
  ended = λ at within h. (stable at (omega arith)).ended h;
  few = λ at value within below. (stable at (omega arith)).few value below;
  reached = table_reached table es t;
}

-- the cost of one stand lower
pub table_at : (table : List ℕ) (es : List Element) (at : Stand) (best : ℕ) → IsTable table es → at.place ≤ length es → IsBest table es at 103 best
    → IsTable (set table (24 * at.place + state_number at.state) best) es
table_at table es at best t within b =
    table_lower table es (24 * at.place + state_number at.state) best t (let i = index_within (length es) at within in let room = t.room in omega arith)
    (subst (λ (s : Stand). IsBest table es s 103 best) (sym (stand_back at)) b)
