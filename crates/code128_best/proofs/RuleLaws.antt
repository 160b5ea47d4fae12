-- The rules of values against the function that the code follows.
use Rattle.std.proofs.Common.{◌≡◌, ◌⊎◌, ◌<◌, ℕ, ◌+◌, ◌/◌, ◌%◌, Bool, true, false, not, ◌&&◌, ◌==◌, nat_lt, cond, List, [], ◌∷◌, Option, Some, refl, sym, subst, inl, inr}
use Rattle.std.proofs.lemmas.Bool.{cond-true, lt-ltb, ltb-true, eqb-true}
use Rattle.bar_base.specs.declared.element.Element.{Element}
use Rattle.bar_base.specs.declared.element.Element.TheVariants as element
use Rattle.code128_best.specs.declared.state.CodeSet.{CodeSet}
use Rattle.code128_best.specs.declared.state.CodeSet.TheVariants.{A, B, C}
use Rattle.code128_best.specs.declared.state.State.{State}
use Rattle.code128_best.specs.declared.effect.Spelled.TheVariants.{Nothing, Digits, Fnc1}
use Rattle.code128_best.specs.declared.effect.Effect.{Effect}
use Rattle.code128_best.specs.Values.{character_of, spent, with_fnc4, is_free, silent_if, fnc1_if, character_effect, act_in_a, act_in_b, act_in_c, act_of, spelled_elements}
use Rattle.code128_best.specs.Rules.{IsTextSet, is_a, is_b, IsNonePending, Acts, character, digits, shift_on, text_to_c, a_to_b, fnc4_in_b, c_to_b, fnc4_in_a, b_to_a, c_to_a, fnc1}

-- an effect with this next state and these elements
pub record HasEffect (s : State) (value : ℕ) (next : State) (spelled : List Element) : Type 0 where
  pub effect : Effect
  pub acts : act_of s value ≡ Some effect
  pub leads : effect.next ≡ next
  pub spells : spelled_elements effect.spelled ≡ spelled

-- a state by its parts
abbrev made : (set : CodeSet) (latch fnc4 shift : Bool) → State
made set latch fnc4 shift = record { set = set; latch = latch; fnc4 = fnc4; shift = shift }

abbrev silent_effect : State → Effect
silent_effect next = record { next = next; spelled = Nothing }

character_has : (set : CodeSet) (latch fnc4 shift : Bool) (value : ℕ) → IsTextSet set → value < 96
    → HasEffect (made set latch fnc4 shift) value (spent (made set latch fnc4 shift)) (element.Byte (character_of (made set latch fnc4 shift) value) ∷ [])
unfolding act_of act_in_a act_in_b character_effect spelled_elements
character_has A latch fnc4 shift value text below =
    record { effect = character_effect (made A latch fnc4 shift) value; acts = cond-true (nat_lt value 96) _ _ (lt-ltb value 96 below); leads = refl; spells = refl }
character_has B latch fnc4 shift value text below =
    record { effect = character_effect (made B latch fnc4 shift) value; acts = cond-true (nat_lt value 96) _ _ (lt-ltb value 96 below); leads = refl; spells = refl }
character_has C latch fnc4 shift value text below = elim text [ ]

digits_has : (set : CodeSet) (latch fnc4 shift : Bool) (value : ℕ) → set ≡ C → value < 100
    → HasEffect (made set latch fnc4 shift) value (made set latch fnc4 shift) (element.Byte (48 + value / 10) ∷ element.Byte (48 + value % 10) ∷ [])
unfolding act_of act_in_c spelled_elements
digits_has A latch fnc4 shift value is below = absurd (cc)
digits_has B latch fnc4 shift value is below = absurd (cc)
digits_has C latch fnc4 shift value is below = record {
  effect = record { next = made C latch fnc4 shift; spelled = Digits (48 + value / 10) (48 + value % 10) };
  acts = cond-true (nat_lt value 100) _ _ (lt-ltb value 100 below);
  leads = refl;
  spells = refl;
}

shift_has : (set : CodeSet) (latch fnc4 shift : Bool) → IsTextSet set → shift ≡ false → HasEffect (made set latch fnc4 shift) 98 (made set latch fnc4 true) []
unfolding act_of act_in_a act_in_b silent_if spelled_elements
shift_has A latch fnc4 false text is = record { effect = silent_effect (made A latch fnc4 true); acts = refl; leads = refl; spells = refl }
shift_has B latch fnc4 false text is = record { effect = silent_effect (made B latch fnc4 true); acts = refl; leads = refl; spells = refl }
shift_has C latch fnc4 shift text is = elim text [ ]
shift_has A latch fnc4 true text is = absurd (cc)
shift_has B latch fnc4 true text is = absurd (cc)

to_c_has : (set : CodeSet) (latch fnc4 shift : Bool) → IsTextSet set → shift ≡ false → fnc4 ≡ false → latch ≡ false → HasEffect (made set latch fnc4 shift) 99 (made C latch fnc4 shift) []
unfolding act_of act_in_a act_in_b silent_if is_free spelled_elements
to_c_has A false false false text a b c = record { effect = silent_effect (made C false false false); acts = refl; leads = refl; spells = refl }
to_c_has B false false false text a b c = record { effect = silent_effect (made C false false false); acts = refl; leads = refl; spells = refl }
to_c_has C latch fnc4 shift text a b c = elim text [ ]
to_c_has A latch fnc4 true text a b c = absurd (cc)
to_c_has B latch fnc4 true text a b c = absurd (cc)
to_c_has A latch true false text a b c = absurd (cc)
to_c_has B latch true false text a b c = absurd (cc)
to_c_has A true false false text a b c = absurd (cc)
to_c_has B true false false text a b c = absurd (cc)

a_to_b_has : (set : CodeSet) (latch fnc4 shift : Bool) → set ≡ A → shift ≡ false → fnc4 ≡ false → HasEffect (made set latch fnc4 shift) 100 (made B latch fnc4 shift) []
unfolding act_of act_in_a silent_if is_free spelled_elements
a_to_b_has A latch false false is a b = record { effect = silent_effect (made B latch false false); acts = refl; leads = refl; spells = refl }
a_to_b_has A latch true false is a b = absurd (cc)
a_to_b_has A latch fnc4 true is a b = absurd (cc)
a_to_b_has B latch fnc4 shift is a b = absurd (cc)
a_to_b_has C latch fnc4 shift is a b = absurd (cc)

b_to_a_has : (set : CodeSet) (latch fnc4 shift : Bool) → set ≡ B → shift ≡ false → fnc4 ≡ false → HasEffect (made set latch fnc4 shift) 101 (made A latch fnc4 shift) []
unfolding act_of act_in_b silent_if is_free spelled_elements
b_to_a_has B latch false false is a b = record { effect = silent_effect (made A latch false false); acts = refl; leads = refl; spells = refl }
b_to_a_has B latch true false is a b = absurd (cc)
b_to_a_has B latch fnc4 true is a b = absurd (cc)
b_to_a_has A latch fnc4 shift is a b = absurd (cc)
b_to_a_has C latch fnc4 shift is a b = absurd (cc)

fnc4_in_b_has : (set : CodeSet) (latch fnc4 shift : Bool) → set ≡ B → shift ≡ false → HasEffect (made set latch fnc4 shift) 100 (with_fnc4 (made set latch fnc4 shift)) []
unfolding act_of act_in_b silent_if spelled_elements
fnc4_in_b_has B latch fnc4 false is a = record { effect = silent_effect (with_fnc4 (made B latch fnc4 false)); acts = refl; leads = refl; spells = refl }
fnc4_in_b_has B latch fnc4 true is a = absurd (cc)
fnc4_in_b_has A latch fnc4 shift is a = absurd (cc)
fnc4_in_b_has C latch fnc4 shift is a = absurd (cc)

fnc4_in_a_has : (set : CodeSet) (latch fnc4 shift : Bool) → set ≡ A → shift ≡ false → HasEffect (made set latch fnc4 shift) 101 (with_fnc4 (made set latch fnc4 shift)) []
unfolding act_of act_in_a silent_if spelled_elements
fnc4_in_a_has A latch fnc4 false is a = record { effect = silent_effect (with_fnc4 (made A latch fnc4 false)); acts = refl; leads = refl; spells = refl }
fnc4_in_a_has A latch fnc4 true is a = absurd (cc)
fnc4_in_a_has B latch fnc4 shift is a = absurd (cc)
fnc4_in_a_has C latch fnc4 shift is a = absurd (cc)

c_to_b_has : (set : CodeSet) (latch fnc4 shift : Bool) → set ≡ C → HasEffect (made set latch fnc4 shift) 100 (made B latch fnc4 shift) []
unfolding act_of act_in_c silent_if spelled_elements
c_to_b_has C latch fnc4 shift is = record { effect = silent_effect (made B latch fnc4 shift); acts = refl; leads = refl; spells = refl }
c_to_b_has A latch fnc4 shift is = absurd (cc)
c_to_b_has B latch fnc4 shift is = absurd (cc)

c_to_a_has : (set : CodeSet) (latch fnc4 shift : Bool) → set ≡ C → HasEffect (made set latch fnc4 shift) 101 (made A latch fnc4 shift) []
unfolding act_of act_in_c silent_if spelled_elements
c_to_a_has C latch fnc4 shift is = record { effect = silent_effect (made A latch fnc4 shift); acts = refl; leads = refl; spells = refl }
c_to_a_has A latch fnc4 shift is = absurd (cc)
c_to_a_has B latch fnc4 shift is = absurd (cc)

fnc1_has : (set : CodeSet) (latch fnc4 shift : Bool) → shift ≡ false → fnc4 ≡ false → HasEffect (made set latch fnc4 shift) 102 (made set latch fnc4 shift) (element.Fnc1 ∷ [])
unfolding act_of act_in_a act_in_b act_in_c fnc1_if is_free spelled_elements
fnc1_has A latch false false a b = record { effect = record { next = made A latch false false; spelled = Fnc1 }; acts = refl; leads = refl; spells = refl }
fnc1_has B latch false false a b = record { effect = record { next = made B latch false false; spelled = Fnc1 }; acts = refl; leads = refl; spells = refl }
fnc1_has C latch false false a b = record { effect = record { next = made C latch false false; spelled = Fnc1 }; acts = refl; leads = refl; spells = refl }
fnc1_has set latch fnc4 true a b = absurd (cc)
fnc1_has set latch true false a b = absurd (cc)

-- each rule is an effect
pub acts_has : {s next : State} {value : ℕ} {spelled : List Element} → Acts s value next spelled → HasEffect s value next spelled
acts_has {s = s} (character {value = value} text below) = character_has s.set s.latch s.fnc4 s.shift value text below
acts_has {s = s} (digits {value = value} is below) = digits_has s.set s.latch s.fnc4 s.shift value is below
acts_has {s = s} (shift_on text is) = shift_has s.set s.latch s.fnc4 s.shift text is
acts_has {s = s} (text_to_c text free unlatched) = to_c_has s.set s.latch s.fnc4 s.shift text free.shift free.fnc4 unlatched
acts_has {s = s} (a_to_b is free) = a_to_b_has s.set s.latch s.fnc4 s.shift is free.shift free.fnc4
acts_has {s = s} (fnc4_in_b is off) = fnc4_in_b_has s.set s.latch s.fnc4 s.shift is off
acts_has {s = s} (c_to_b is) = c_to_b_has s.set s.latch s.fnc4 s.shift is
acts_has {s = s} (fnc4_in_a is off) = fnc4_in_a_has s.set s.latch s.fnc4 s.shift is off
acts_has {s = s} (b_to_a is free) = b_to_a_has s.set s.latch s.fnc4 s.shift is free.shift free.fnc4
acts_has {s = s} (c_to_a is) = c_to_a_has s.set s.latch s.fnc4 s.shift is
acts_has {s = s} (fnc1 free) = fnc1_has s.set s.latch s.fnc4 s.shift free.shift free.fnc4

-- a choice that gives something, by its test
cond_some : (test : Bool) (x y : Option Effect) (e : Effect) → cond test x y ≡ Some e → ((test ≡ true) × (x ≡ Some e)) ⊎ ((test ≡ false) × (y ≡ Some e))
cond_some true x y e h = inl (refl, h)
cond_some false x y e h = inr (refl, h)

silent_is : (may : Bool) (next : State) (e : Effect) → silent_if may next ≡ Some e → (may ≡ true) × (silent_effect next ≡ e)
unfolding silent_if
silent_is true next e h = (refl, cc)
silent_is false next e h = absurd (cc)

fnc1_is : (may : Bool) (s : State) (e : Effect) → fnc1_if may s ≡ Some e → (may ≡ true) × (record { next = s; spelled = Fnc1 } ≡ e)
unfolding fnc1_if
fnc1_is true s e h = (refl, cc)
fnc1_is false s e h = absurd (cc)

off : (b : Bool) → not b ≡ true → b ≡ false
off false h = refl
off true h = absurd (cc)

both : (a b : Bool) → (a && b) ≡ true → (a ≡ true) × (b ≡ true)
both true b h = (refl, h)
both false b h = absurd (cc)

free_is : (s : State) → is_free s ≡ true → IsNonePending s
unfolding is_free
free_is s h = let (fnc4_off, shift_off) = both (not s.fnc4) (not s.shift) h in record { shift = off s.shift shift_off; fnc4 = off s.fnc4 fnc4_off }

-- what an effect does
abbrev Does : State → ℕ → Effect → Type 0
Does s value e = Acts s value e.next (spelled_elements e.spelled)

at_value : (s : State) (value number : ℕ) (e e' : Effect) → (value == number) ≡ true → e ≡ e' → Does s number e → Does s value e'
at_value s value number e e' is same does =
    subst (λ (x : Effect). Does s value x) same (subst (λ (n : ℕ). Does s n e) (sym (eqb-true value number is)) does)

in_text : (s : State) (value : ℕ) (e : Effect) → IsTextSet s.set → nat_lt value 96 ≡ true → Some (character_effect s value) ≡ Some e → Does s value e
unfolding character_effect spelled_elements
in_text s value e text low h =
    let same : character_effect s value ≡ e = cc in
    subst (λ (x : Effect). Does s value x) same (character text (ltb-true value 96 low))

does_a : (latch fnc4 shift : Bool) (value : ℕ) (e : Effect) → act_in_a (made A latch fnc4 shift) value ≡ Some e → Does (made A latch fnc4 shift) value e
unfolding act_in_a spelled_elements
does_a latch fnc4 shift value e h =
    let s = made A latch fnc4 shift in
    elim (cond_some (nat_lt value 96) _ _ e h) [
      | inl (low, is) ↦ in_text s value e is_a low is
      | inr (_, h1) ↦ elim (cond_some (value == 98) _ _ e h1) [
        | inl (at, is) ↦ let (may, same) = silent_is _ _ e is in at_value s value 98 _ e at same (shift_on is_a (off shift may))
        | inr (_, h2) ↦ elim (cond_some (value == 99) _ _ e h2) [
          | inl (at, is) ↦
              let (may, same) = silent_is _ _ e is in
              let (free, unlatched) = both (is_free s) (not latch) may in
              at_value s value 99 _ e at same (text_to_c is_a (free_is s free) (off latch unlatched))
          | inr (_, h3) ↦ elim (cond_some (value == 100) _ _ e h3) [
            | inl (at, is) ↦ let (may, same) = silent_is _ _ e is in at_value s value 100 _ e at same (a_to_b refl (free_is s may))
            | inr (_, h4) ↦ elim (cond_some (value == 101) _ _ e h4) [
              | inl (at, is) ↦ let (may, same) = silent_is _ _ e is in at_value s value 101 _ e at same (fnc4_in_a refl (off shift may))
              | inr (_, h5) ↦ elim (cond_some (value == 102) _ _ e h5) [
                | inl (at, is) ↦ let (may, same) = fnc1_is _ _ e is in at_value s value 102 _ e at same (fnc1 (free_is s may))
                | inr (_, h6) ↦ absurd (cc)
              ]
            ]
          ]
        ]
      ]
    ]

does_b : (latch fnc4 shift : Bool) (value : ℕ) (e : Effect) → act_in_b (made B latch fnc4 shift) value ≡ Some e → Does (made B latch fnc4 shift) value e
unfolding act_in_b spelled_elements
does_b latch fnc4 shift value e h =
    let s = made B latch fnc4 shift in
    elim (cond_some (nat_lt value 96) _ _ e h) [
      | inl (low, is) ↦ in_text s value e is_b low is
      | inr (_, h1) ↦ elim (cond_some (value == 98) _ _ e h1) [
        | inl (at, is) ↦ let (may, same) = silent_is _ _ e is in at_value s value 98 _ e at same (shift_on is_b (off shift may))
        | inr (_, h2) ↦ elim (cond_some (value == 99) _ _ e h2) [
          | inl (at, is) ↦
              let (may, same) = silent_is _ _ e is in
              let (free, unlatched) = both (is_free s) (not latch) may in
              at_value s value 99 _ e at same (text_to_c is_b (free_is s free) (off latch unlatched))
          | inr (_, h3) ↦ elim (cond_some (value == 100) _ _ e h3) [
            | inl (at, is) ↦ let (may, same) = silent_is _ _ e is in at_value s value 100 _ e at same (fnc4_in_b refl (off shift may))
            | inr (_, h4) ↦ elim (cond_some (value == 101) _ _ e h4) [
              | inl (at, is) ↦ let (may, same) = silent_is _ _ e is in at_value s value 101 _ e at same (b_to_a refl (free_is s may))
              | inr (_, h5) ↦ elim (cond_some (value == 102) _ _ e h5) [
                | inl (at, is) ↦ let (may, same) = fnc1_is _ _ e is in at_value s value 102 _ e at same (fnc1 (free_is s may))
                | inr (_, h6) ↦ absurd (cc)
              ]
            ]
          ]
        ]
      ]
    ]

does_c : (latch fnc4 shift : Bool) (value : ℕ) (e : Effect) → act_in_c (made C latch fnc4 shift) value ≡ Some e → Does (made C latch fnc4 shift) value e
unfolding act_in_c spelled_elements
does_c latch fnc4 shift value e h =
    let s = made C latch fnc4 shift in
    elim (cond_some (nat_lt value 100) _ _ e h) [
      | inl (low, is) ↦
          let pair : Effect = record { next = s; spelled = Digits (48 + value / 10) (48 + value % 10) } in
          let same : pair ≡ e = cc in
          subst (λ (x : Effect). Does s value x) same (digits refl (ltb-true value 100 low))
      | inr (_, h1) ↦ elim (cond_some (value == 100) _ _ e h1) [
        | inl (at, is) ↦ let (may, same) = silent_is _ _ e is in at_value s value 100 _ e at same (c_to_b refl)
        | inr (_, h2) ↦ elim (cond_some (value == 101) _ _ e h2) [
          | inl (at, is) ↦ let (may, same) = silent_is _ _ e is in at_value s value 101 _ e at same (c_to_a refl)
          | inr (_, h3) ↦ elim (cond_some (value == 102) _ _ e h3) [
            | inl (at, is) ↦ let (may, same) = fnc1_is _ _ e is in at_value s value 102 _ e at same (fnc1 (free_is s may))
            | inr (_, h4) ↦ absurd (cc)
          ]
        ]
      ]
    ]

does_in : (set : CodeSet) (latch fnc4 shift : Bool) (value : ℕ) (e : Effect) → act_of (made set latch fnc4 shift) value ≡ Some e → Does (made set latch fnc4 shift) value e
unfolding act_of
does_in A latch fnc4 shift value e h = does_a latch fnc4 shift value e h
does_in B latch fnc4 shift value e h = does_b latch fnc4 shift value e h
does_in C latch fnc4 shift value e h = does_c latch fnc4 shift value e h

-- and each effect is a rule
pub effect_acts : (s : State) (value : ℕ) (e : Effect) → act_of s value ≡ Some e → Acts s value e.next (spelled_elements e.spelled)
effect_acts s value e h = does_in s.set s.latch s.fnc4 s.shift value e h
