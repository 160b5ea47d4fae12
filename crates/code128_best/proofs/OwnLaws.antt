-- The only value that can spell characters or digits at a stand.
use Rattle.std.proofs.Common.{◌≡◌, ◌⊎◌, inl, inr, ℕ, ◌+◌, ◌*◌, ◌-◌, ◌/◌, ◌%◌, ◌<◌, ◌≤◌, Bool, true, false, ◌&&◌, nat_lt, ◌==◌, cond, min, List, [], Option, Some, None, slice_get, refl, sym, ap, subst, ◌∙◌, arith}
use Rattle.std.proofs.lemmas.Bool.{cond-true, cond-false, lt-ltb, cases_lt, cases_Bool}
use Rattle.std.proofs.lemmas.Bool.Decides.{nat_tests}
use Rattle.bar_base.specs.declared.element.Element.{Element}
use Rattle.bar_base.specs.declared.element.Element.TheVariants as element
use Rattle.code128_best.specs.declared.state.CodeSet.{CodeSet}
use Rattle.code128_best.specs.declared.state.CodeSet.TheVariants.{A, B, C}
use Rattle.code128_best.specs.declared.state.State.{State}
use Rattle.code128_best.specs.declared.effect.Effect.{Effect}
use Rattle.code128_best.specs.declared.effect.Spelled.TheVariants.{Digits}
use Rattle.code128_best.specs.declared.stepping.Stand.{Stand}
use Rattle.code128_best.specs.Values.{character_of_set, reading_set, reads_high, character_of, character_effect, spent, act_in_a, act_in_b, act_in_c, act_of, spelled_count}
use Rattle.code128_best.specs.Steps.{is_byte, stands_at, follow, value_step, is_end, kept_values, next_cost, values_through}
use Rattle.code128_best.specs.Own.{set_value, value_by, value_of_byte, digit_of, value_of_pair, own_of, set_has_character, set_has_byte, element_fits, is_digit, text_step, pair_step, own_step_of}
use Rattle.code128_best.specs.Costs.{IsOwn, IsBest, IsStable}
use Rattle.code128_best.specs.Picks.{IsPick}
use Rattle.code128_best.proofs.StepLaws.{byte_is, both}

by_small : (high : Bool) (set : CodeSet) (byte : ℕ) → value_by high set byte < 96
unfolding value_by set_value
by_small true A byte = grind (arith, nat_tests)
by_small true B byte = grind (arith, nat_tests)
by_small true C byte = grind (arith, nat_tests)
by_small false A byte = grind (arith, nat_tests)
by_small false B byte = grind (arith, nat_tests)
by_small false C byte = grind (arith, nat_tests)

byte_small : (o : Option Element) (s : State) → value_of_byte o s < 96
unfolding value_of_byte
byte_small None s = omega arith
byte_small (Some (element.Byte byte)) s = by_small (reads_high s) (reading_set s) byte
byte_small (Some (element.Eci number)) s = omega arith
byte_small (Some element.Fnc1) s = omega arith

digit_small : (o : Option Element) → digit_of o < 10
unfolding digit_of
digit_small None = omega arith
digit_small (Some (element.Byte byte)) = grind (arith, nat_tests)
digit_small (Some (element.Eci number)) = omega arith
digit_small (Some element.Fnc1) = omega arith

pair_small : (first second : Option Element) → value_of_pair first second < 100
unfolding value_of_pair
pair_small first second = omega (arith, digit_small first, digit_small second)

in_back : (set : CodeSet) (value : ℕ) → value < 96 → set_value set (character_of_set set value) ≡ value
unfolding set_value character_of_set
in_back A value below = grind (arith, nat_tests)
in_back B value below = grind (arith, nat_tests)
in_back C value below = grind (arith, nat_tests)

in_small : (set : CodeSet) (value : ℕ) → value < 96 → character_of_set set value < 128
unfolding character_of_set
in_small A value below = grind (arith, nat_tests)
in_small B value below = grind (arith, nat_tests)
in_small C value below = omega arith

by_back : (high : Bool) (set : CodeSet) (value : ℕ) → value < 96 → value_by high set (cond high (character_of_set set value + 128) (character_of_set set value)) ≡ value
unfolding value_by
by_back true set value below =
    cond-false (nat_lt (character_of_set set value + 128) 128) 0 (set_value set (character_of_set set value + 128 - 128)) (grind (arith, nat_tests))
    ∙ ap (set_value set) (let e : character_of_set set value + 128 - 128 ≡ character_of_set set value = omega arith in e) ∙ in_back set value below
by_back false set value below =
    cond-true (nat_lt (character_of_set set value) 128) (set_value set (character_of_set set value)) 0 (lt-ltb (character_of_set set value) 128 (in_small set value below)) ∙ in_back set value below

byte_only : (o : Option Element) (s : State) (value : ℕ) → value < 96 → is_byte o (character_of s value) ≡ true → value ≡ value_of_byte o s
unfolding value_of_byte character_of
byte_only o s value below has =
    sym (ap (λ (x : Option Element). value_of_byte x s) (byte_is o (character_of s value) has) ∙ by_back (reads_high s) (reading_set s) value below)

digit_back : (digit : ℕ) → digit < 10 → digit_of (Some (element.Byte (48 + digit))) ≡ digit
unfolding digit_of
digit_back digit below = grind (arith, nat_tests)

pair_only : (first second : Option Element) (value : ℕ) → value < 100 → (is_byte first (48 + value / 10) && is_byte second (48 + value % 10)) ≡ true
    → value ≡ value_of_pair first second
unfolding value_of_pair
pair_only first second value below has =
    let (a, b) = both (is_byte first (48 + value / 10)) (is_byte second (48 + value % 10)) has in
    let tens : digit_of first ≡ value / 10 = ap digit_of (byte_is first (48 + value / 10) a) ∙ digit_back (value / 10) (omega arith) in
    let ones : digit_of second ≡ value % 10 = ap digit_of (byte_is second (48 + value % 10) b) ∙ digit_back (value % 10) (omega arith) in
    omega arith

abbrev made : (set : CodeSet) (latch fnc4 shift : Bool) → State
made set latch fnc4 shift = record { set = set; latch = latch; fnc4 = fnc4; shift = shift }

abbrev stand : (place : ℕ) → State → Stand
stand place s = record { place = place; state = s }

none_a : (latch fnc4 shift : Bool) (value : ℕ) → 96 ≤ value → value < 98 → act_of (made A latch fnc4 shift) value ≡ None
unfolding act_of act_in_a
none_a latch fnc4 shift value low high = grind (arith, nat_tests)

none_b : (latch fnc4 shift : Bool) (value : ℕ) → 96 ≤ value → value < 98 → act_of (made B latch fnc4 shift) value ≡ None
unfolding act_of act_in_b
none_b latch fnc4 shift value low high = grind (arith, nat_tests)

-- the effect stands or not
stands_or : (es : List Element) (place : ℕ) (effect : Effect) → (stands_at effect.spelled es place ≡ true) ⊎ (follow es place (Some effect) ≡ None)
unfolding follow
stands_or es place effect =
    elim (cases_Bool (stands_at effect.spelled es place)) [
      | inl stands ↦ inl stands
      | inr apart ↦ inr (cond-false (stands_at effect.spelled es place) (Some (record { place = place + spelled_count effect.spelled; state = effect.next })) None apart)
    ]

text_a : (es : List Element) (place : ℕ) (latch fnc4 shift : Bool) (value : ℕ) → value < 96 → act_of (made A latch fnc4 shift) value ≡ Some (character_effect (made A latch fnc4 shift) value)
unfolding act_of act_in_a
text_a es place latch fnc4 shift value below = cond-true (nat_lt value 96) _ _ (lt-ltb value 96 below)

text_b : (es : List Element) (place : ℕ) (latch fnc4 shift : Bool) (value : ℕ) → value < 96 → act_of (made B latch fnc4 shift) value ≡ Some (character_effect (made B latch fnc4 shift) value)
unfolding act_of act_in_b
text_b es place latch fnc4 shift value below = cond-true (nat_lt value 96) _ _ (lt-ltb value 96 below)

abbrev digits_effect : State → (value : ℕ) → Effect
digits_effect s value = record { next = s; spelled = Digits (48 + value / 10) (48 + value % 10) }

pair_c : (latch fnc4 shift : Bool) (value : ℕ) → value < 100 → act_of (made C latch fnc4 shift) value ≡ Some (digits_effect (made C latch fnc4 shift) value)
unfolding act_of act_in_c
pair_c latch fnc4 shift value below = cond-true (nat_lt value 100) _ _ (lt-ltb value 100 below)

text_only : (es : List Element) (place : ℕ) (s : State) (value : ℕ) → value < 96 → act_of s value ≡ Some (character_effect s value)
    → (value ≡ value_of_byte (slice_get es place) s) ⊎ (value_step es (stand place s) value ≡ None)
unfolding value_step stands_at character_effect
text_only es place s value below acts =
    elim (stands_or es place (character_effect s value)) [
      | inl stands ↦ inl (byte_only (slice_get es place) s value below stands)
      | inr apart ↦ inr (ap (follow es place) acts ∙ apart)
    ]

own_only : (es : List Element) (place : ℕ) (set : CodeSet) (latch fnc4 shift : Bool) (value : ℕ) → value < 103
    → (value ≡ own_of es (stand place (made set latch fnc4 shift))) ⊎ (value_step es (stand place (made set latch fnc4 shift)) value ≡ None)
    ⊎ ((98 ≤ value) × (own_of es (stand place (made set latch fnc4 shift)) < value))
unfolding own_of value_step stands_at follow
own_only es place A latch fnc4 shift value below =
    elim (cases_lt value 96) [
      | inl text ↦ elim (text_only es place (made A latch fnc4 shift) value text (text_a es place latch fnc4 shift value text)) [ inl own ↦ inl own | inr none ↦ inr (inl none) ]
      | inr past ↦ elim (cases_lt value 98) [
        | inl none ↦ inr (inl (ap (follow es place) (none_a latch fnc4 shift value past none)))
        | inr more ↦ inr (inr (more, omega (arith, byte_small (slice_get es place) (made A latch fnc4 shift))))
      ]
    ]
own_only es place B latch fnc4 shift value below =
    elim (cases_lt value 96) [
      | inl text ↦ elim (text_only es place (made B latch fnc4 shift) value text (text_b es place latch fnc4 shift value text)) [ inl own ↦ inl own | inr none ↦ inr (inl none) ]
      | inr past ↦ elim (cases_lt value 98) [
        | inl none ↦ inr (inl (ap (follow es place) (none_b latch fnc4 shift value past none)))
        | inr more ↦ inr (inr (more, omega (arith, byte_small (slice_get es place) (made B latch fnc4 shift))))
      ]
    ]
own_only es place C latch fnc4 shift value below =
    elim (cases_lt value 100) [
      | inl pair ↦ elim (stands_or es place (digits_effect (made C latch fnc4 shift) value)) [
        | inl stands ↦ inl (pair_only (slice_get es place) (slice_get es (place + 1)) value pair stands)
        | inr apart ↦ inr (inl (ap (follow es place) (pair_c latch fnc4 shift value pair) ∙ apart))
      ]
      | inr more ↦ inr (inr (omega arith, omega (arith, pair_small (slice_get es place) (slice_get es (place + 1)))))
    ]

pub pair_or : (es : List Element) (place : ℕ) (latch fnc4 shift : Bool) (value : ℕ) → value < 100
    → (value ≡ own_of es (stand place (made C latch fnc4 shift))) ⊎ (value_step es (stand place (made C latch fnc4 shift)) value ≡ None)
unfolding own_of value_step stands_at follow
pair_or es place latch fnc4 shift value pair =
    elim (stands_or es place (digits_effect (made C latch fnc4 shift) value)) [
      | inl stands ↦ inl (pair_only (slice_get es place) (slice_get es (place + 1)) value pair stands)
      | inr apart ↦ inr (ap (follow es place) (pair_c latch fnc4 shift value pair) ∙ apart)
    ]

own_small : (es : List Element) (place : ℕ) (set : CodeSet) (latch fnc4 shift : Bool) → own_of es (stand place (made set latch fnc4 shift)) < 100
unfolding own_of
own_small es place A latch fnc4 shift = omega (arith, byte_small (slice_get es place) (made A latch fnc4 shift))
own_small es place B latch fnc4 shift = omega (arith, byte_small (slice_get es place) (made B latch fnc4 shift))
own_small es place C latch fnc4 shift = omega (arith, pair_small (slice_get es place) (slice_get es (place + 1)))

pub own_is : (es : List Element) (at : Stand) → IsOwn es at (own_of es at)
own_is es at = record {
  below = own_small es at.place at.state.set at.state.latch at.state.fnc4 at.state.shift;
  only = λ value below. own_only es at.place at.state.set at.state.latch at.state.fnc4 at.state.shift value below;
}

by_fits : (high : Bool) (set : CodeSet) (byte : ℕ) → (cond high (character_of_set set (value_by high set byte) + 128) (character_of_set set (value_by high set byte)) == byte) ≡ set_has_byte high set byte
unfolding value_by set_value character_of_set set_has_byte set_has_character
by_fits true A byte = grind (arith, nat_tests)
by_fits true B byte = grind (arith, nat_tests)
by_fits true C byte = grind (arith, nat_tests)
by_fits false A byte = grind (arith, nat_tests)
by_fits false B byte = grind (arith, nat_tests)
by_fits false C byte = grind (arith, nat_tests)

has_fits : (o : Option Element) (s : State) → is_byte o (character_of s (value_of_byte o s)) ≡ element_fits o s
unfolding is_byte character_of value_of_byte element_fits
has_fits None s = refl
has_fits (Some (element.Byte byte)) s = by_fits (reads_high s) (reading_set s) byte
has_fits (Some (element.Eci number)) s = refl
has_fits (Some element.Fnc1) s = refl

digit_has : (o : Option Element) → is_byte o (48 + digit_of o) ≡ is_digit o
unfolding is_byte digit_of is_digit
digit_has None = refl
digit_has (Some (element.Byte byte)) = grind (arith, nat_tests)
digit_has (Some (element.Eci number)) = refl
digit_has (Some element.Fnc1) = refl

pair_has : (first second : Option Element) → (is_byte first (48 + value_of_pair first second / 10) && is_byte second (48 + value_of_pair first second % 10)) ≡ (is_digit first && is_digit second)
unfolding value_of_pair
pair_has first second =
    let f = digit_small first in let s = digit_small second in
    let tens : (10 * digit_of first + digit_of second) / 10 ≡ digit_of first = omega arith in
    let ones : (10 * digit_of first + digit_of second) % 10 ≡ digit_of second = omega arith in
    ap (λ (n : ℕ). is_byte first (48 + n) && is_byte second (48 + (10 * digit_of first + digit_of second) % 10)) tens
    ∙ ap (λ (n : ℕ). is_byte first (48 + digit_of first) && is_byte second (48 + n)) ones
    ∙ ap (λ (t : Bool). t && is_byte second (48 + digit_of second)) (digit_has first) ∙ ap (λ (t : Bool). is_digit first && t) (digit_has second)

text_steps : (es : List Element) (place : ℕ) (s : State) → act_of s (value_of_byte (slice_get es place) s) ≡ Some (character_effect s (value_of_byte (slice_get es place) s))
    → value_step es (stand place s) (value_of_byte (slice_get es place) s) ≡ text_step es (stand place s)
unfolding value_step follow stands_at character_effect spelled_count text_step
text_steps es place s acts =
    ap (follow es place) acts ∙ ap (λ (t : Bool). cond t (Some (stand (place + 1) (spent s))) None) (has_fits (slice_get es place) s)

own_steps : (es : List Element) (place : ℕ) (set : CodeSet) (latch fnc4 shift : Bool)
    → value_step es (stand place (made set latch fnc4 shift)) (own_of es (stand place (made set latch fnc4 shift))) ≡ own_step_of es (stand place (made set latch fnc4 shift))
unfolding own_of own_step_of value_step follow stands_at spelled_count pair_step
own_steps es place A latch fnc4 shift =
    let s = made A latch fnc4 shift in
    text_steps es place s (text_a es place latch fnc4 shift (value_of_byte (slice_get es place) s) (byte_small (slice_get es place) s))
own_steps es place B latch fnc4 shift =
    let s = made B latch fnc4 shift in
    text_steps es place s (text_b es place latch fnc4 shift (value_of_byte (slice_get es place) s) (byte_small (slice_get es place) s))
own_steps es place C latch fnc4 shift =
    let s = made C latch fnc4 shift in
    ap (follow es place) (pair_c latch fnc4 shift (value_of_pair (slice_get es place) (slice_get es (place + 1))) (pair_small (slice_get es place) (slice_get es (place + 1))))
    ∙ ap (λ (t : Bool). cond t (Some (stand (place + 2) s)) None) (pair_has (slice_get es place) (slice_get es (place + 1)))

pub own_steps_to : (es : List Element) (at : Stand) → value_step es at (own_of es at) ≡ own_step_of es at
own_steps_to es at = own_steps es at.place at.state.set at.state.latch at.state.fnc4 at.state.shift

-- the least of two
pub record IsMin (a b least : ℕ) : Type 0 where
  pub left : least ≤ a
  pub right : least ≤ b
  pub is : (least ≡ a) ⊎ (least ≡ b)

min_is : (a b : ℕ) → (min a b ≡ a) ⊎ (min a b ≡ b)
min_is a b = grind arith

is_min : (a b least : ℕ) → least ≡ min a b → IsMin a b least
is_min a b least is =
    record { left = omega arith; right = omega arith; is = subst (λ (m : ℕ). (m ≡ a) ⊎ (m ≡ b)) (sym is) (min_is a b) }

late_cases : (value : ℕ) → 98 ≤ value → value < 103 → (value ≡ 98) ⊎ (value ≡ 99) ⊎ (value ≡ 100) ⊎ (value ≡ 101) ⊎ (value ≡ 102)
late_cases value low high = grind arith

pub none_dear : (table : List ℕ) (es : List Element) (at : Stand) (value : ℕ) → value_step es at value ≡ None → values_through table es at value ≡ 1000
unfolding values_through next_cost
none_dear table es at value none = ap (next_cost table) none

-- no cost, that of the end, or that through a value
abbrev IsSome : (table : List ℕ) (es : List Element) (at : Stand) (best : ℕ) → Type 0
IsSome table es at best = (best ≡ 1000) ⊎ ((is_end es at ≡ true) × (best ≡ 0)) ⊎ ((value : ℕ) × (value < 103) × (best ≡ values_through table es at value))

some_more : (table : List ℕ) (es : List Element) (at : Stand) (value best more next : ℕ) → IsSome table es at best → value < 103 → more ≡ values_through table es at value → IsMin best more next
    → IsSome table es at next
some_more table es at value best more next some below is least =
    elim least.is [
      | inl kept ↦ subst (λ (c : ℕ). IsSome table es at c) (sym kept) some
      | inr new ↦ inr (inr (value, below, new ∙ is))
    ]

some_start : (table : List ℕ) (es : List Element) (at : Stand) (best : ℕ) → IsBest [] es at 0 best → IsSome table es at best
some_start table es at best b = elim b.reached [ inl none ↦ inl none | inr (inl at_end) ↦ inr (inl at_end) | inr (inr (value, below, is)) ↦ absurd (omega arith) ]

least_by : (table : List ℕ) (es : List Element) (at : Stand) (own end t0 t1 t2 t3 t4 t5 m0 m1 m2 m3 m4 m5 : ℕ) → IsBest [] es at 0 end → IsOwn es at own
    → t0 ≡ values_through table es at own → t1 ≡ values_through table es at 98 → t2 ≡ values_through table es at 99 → t3 ≡ values_through table es at 100 → t4 ≡ values_through table es at 101 → t5 ≡ values_through table es at 102
    → IsMin end t0 m0 → IsMin m0 t1 m1 → IsMin m1 t2 m2 → IsMin m2 t3 m3 → IsMin m3 t4 m4 → IsMin m4 t5 m5 → IsBest table es at 103 m5
least_by table es at own end t0 t1 t2 t3 t4 t5 m0 m1 m2 m3 m4 m5 b o e0 e1 e2 e3 e4 e5 i0 i1 i2 i3 i4 i5 =
    let l0 = i0.left in let l1 = i1.left in let l2 = i2.left in let l3 = i3.left in let l4 = i4.left in let l5 = i5.left in
    let r0 = i0.right in let r1 = i1.right in let r2 = i2.right in let r3 = i3.right in let r4 = i4.right in let r5 = i5.right in
    let end_small = b.small in
    record {
      small = omega arith;
      ended = λ h. let z = b.ended h in omega arith;
      few = λ value below.
          elim (o.only value below) [
            | inl same ↦ subst (λ (v : ℕ). m5 ≤ values_through table es at v) (sym same) (omega arith)
            | inr (inl none) ↦ let dear = none_dear table es at value none in omega arith
            | inr (inr (late, after)) ↦ elim (late_cases value late below) [
              | inl same ↦ subst (λ (v : ℕ). m5 ≤ values_through table es at v) (sym same) (omega arith)
              | inr (inl same) ↦ subst (λ (v : ℕ). m5 ≤ values_through table es at v) (sym same) (omega arith)
              | inr (inr (inl same)) ↦ subst (λ (v : ℕ). m5 ≤ values_through table es at v) (sym same) (omega arith)
              | inr (inr (inr (inl same))) ↦ subst (λ (v : ℕ). m5 ≤ values_through table es at v) (sym same) (omega arith)
              | inr (inr (inr (inr same))) ↦ subst (λ (v : ℕ). m5 ≤ values_through table es at v) (sym same) (omega arith)
            ]
          ];
      reached =
          let own_small = o.below in
          let s0 = some_more table es at own end t0 m0 (some_start table es at end b) (omega arith) e0 i0 in
          let s1 = some_more table es at 98 m0 t1 m1 s0 (omega arith) e1 i1 in
          let s2 = some_more table es at 99 m1 t2 m2 s1 (omega arith) e2 i2 in
          let s3 = some_more table es at 100 m2 t3 m3 s2 (omega arith) e3 i3 in
          let s4 = some_more table es at 101 m3 t4 m4 s3 (omega arith) e4 i4 in
          some_more table es at 102 m4 t5 m5 s4 (omega arith) e5 i5;
    }

pub least_all : (table : List ℕ) (es : List Element) (at : Stand) (own end t0 t1 t2 t3 t4 t5 m0 m1 m2 m3 m4 m5 : ℕ) → IsBest [] es at 0 end → IsOwn es at own
    → t0 ≡ values_through table es at own → t1 ≡ values_through table es at 98 → t2 ≡ values_through table es at 99 → t3 ≡ values_through table es at 100 → t4 ≡ values_through table es at 101 → t5 ≡ values_through table es at 102
    → m0 ≡ min end t0 → m1 ≡ min m0 t1 → m2 ≡ min m1 t2 → m3 ≡ min m2 t3 → m4 ≡ min m3 t4 → m5 ≡ min m4 t5 → IsBest table es at 103 m5
least_all table es at own end t0 t1 t2 t3 t4 t5 m0 m1 m2 m3 m4 m5 b o e0 e1 e2 e3 e4 e5 i0 i1 i2 i3 i4 i5 =
    least_by table es at own end t0 t1 t2 t3 t4 t5 m0 m1 m2 m3 m4 m5 b o e0 e1 e2 e3 e4 e5 (is_min end t0 m0 i0) (is_min m0 t1 m1 i1) (is_min m1 t2 m2 i2)
    (is_min m2 t3 m3 i3) (is_min m3 t4 m4 i4) (is_min m4 t5 m5 i5)

-- a value through which the cost isn't the least
abbrev pub IsDear : (table : List ℕ) (es : List Element) (at : Stand) (value : ℕ) → Type 0
IsDear table es at value = values_through table es at value ≡ kept_values table at → ⊥

-- the value's own, where the cost is the least through it
pub pick_own : (table : List ℕ) (es : List Element) (at : Stand) (own : ℕ) → IsOwn es at own → kept_values table at < 1000 → values_through table es at own ≡ kept_values table at → IsPick table es at own
pick_own table es at own o known cheap = record {
  below = let b = o.below in omega arith;
  cheapest = cheap;
  earlier = λ other less same.
      elim (o.only other (let b = o.below in omega arith)) [
        | inl own ↦ omega arith
        | inr (inl none) ↦ let dear = none_dear table es at other none in omega arith
        | inr (inr (late, after)) ↦ omega arith
      ];
}

-- else the first of the others
pub pick_late : (table : List ℕ) (es : List Element) (at : Stand) (own value : ℕ) → IsOwn es at own → kept_values table at < 1000 → IsDear table es at own
    → (98 < value → IsDear table es at 98) → (99 < value → IsDear table es at 99) → (100 < value → IsDear table es at 100) → (101 < value → IsDear table es at 101)
    → value < 103 → values_through table es at value ≡ kept_values table at → IsPick table es at value
pick_late table es at own value o known dear d0 d1 d2 d3 below cheap = record {
  below = below;
  cheapest = cheap;
  earlier = λ other less same.
      elim (o.only other (omega arith)) [
        | inl own ↦ dear (subst (λ (v : ℕ). values_through table es at v ≡ kept_values table at) own same)
        | inr (inl none) ↦ let dear = none_dear table es at other none in omega arith
        | inr (inr (late, after)) ↦ elim (late_cases other late (omega arith)) [
          | inl is ↦ d0 (omega arith) (subst (λ (v : ℕ). values_through table es at v ≡ kept_values table at) is same)
          | inr (inl is) ↦ d1 (omega arith) (subst (λ (v : ℕ). values_through table es at v ≡ kept_values table at) is same)
          | inr (inr (inl is)) ↦ d2 (omega arith) (subst (λ (v : ℕ). values_through table es at v ≡ kept_values table at) is same)
          | inr (inr (inr (inl is))) ↦ d3 (omega arith) (subst (λ (v : ℕ). values_through table es at v ≡ kept_values table at) is same)
          | inr (inr (inr (inr is))) ↦ omega arith
        ]
      ];
}

-- where no other will do, the last
pub last_cheap : (table : List ℕ) (es : List Element) (at : Stand) (own : ℕ) → IsOwn es at own → kept_values table at < 1000
    → ((value : ℕ) × (value < 103) × (values_through table es at value ≡ kept_values table at)) → IsDear table es at own
    → IsDear table es at 98 → IsDear table es at 99 → IsDear table es at 100 → IsDear table es at 101 → values_through table es at 102 ≡ kept_values table at
last_cheap table es at own o known (value, below, cheap) dear d0 d1 d2 d3 =
    elim (o.only value below) [
      | inl own ↦ absurd (dear (subst (λ (v : ℕ). values_through table es at v ≡ kept_values table at) own cheap))
      | inr (inl none) ↦ absurd (let dear = none_dear table es at value none in omega arith)
      | inr (inr (late, after)) ↦ elim (late_cases value late below) [
        | inl is ↦ absurd (d0 (subst (λ (v : ℕ). values_through table es at v ≡ kept_values table at) is cheap))
        | inr (inl is) ↦ absurd (d1 (subst (λ (v : ℕ). values_through table es at v ≡ kept_values table at) is cheap))
        | inr (inr (inl is)) ↦ absurd (d2 (subst (λ (v : ℕ). values_through table es at v ≡ kept_values table at) is cheap))
        | inr (inr (inr (inl is))) ↦ absurd (d3 (subst (λ (v : ℕ). values_through table es at v ≡ kept_values table at) is cheap))
        | inr (inr (inr (inr is))) ↦ subst (λ (v : ℕ). values_through table es at v ≡ kept_values table at) is cheap
      ]
    ]

-- a stand whose cost is no higher than through any value
pub stable_at : (table : List ℕ) (es : List Element) (at : Stand) (best : ℕ) → IsBest table es at 103 best → kept_values table at ≤ best → IsStable table es at
stable_at table es at best b low = record {
  ended = λ h. let z = b.ended h in omega arith;
  few = λ value below. let f = b.few value below in omega arith;
}

pub stable_places : (table : List ℕ) (es : List Element) (place : ℕ)
    → ((latch fnc4 shift : Bool) → IsStable table es (stand place (made A latch fnc4 shift)))
    → ((latch fnc4 shift : Bool) → IsStable table es (stand place (made B latch fnc4 shift)))
    → ((latch fnc4 shift : Bool) → IsStable table es (stand place (made C latch fnc4 shift)))
    → (at : Stand) → at.place ≡ place → IsStable table es at
stable_places table es place a b c at same =
    subst (λ (p : ℕ). IsStable table es (stand p at.state)) (sym same) (in_set at.state.set at.state.latch at.state.fnc4 at.state.shift) where
      in_set : (set : CodeSet) (latch fnc4 shift : Bool) → IsStable table es (stand place (made set latch fnc4 shift))
      in_set A latch fnc4 shift = a latch fnc4 shift
      in_set B latch fnc4 shift = b latch fnc4 shift
      in_set C latch fnc4 shift = c latch fnc4 shift

below_next : (j n : ℕ) → j < n + 1 → (j < n) ⊎ (j ≡ n)
below_next j n below = grind arith

pub stable_more : (table : List ℕ) (es : List Element) (place : ℕ) → ((at : Stand) → at.place < place → IsStable table es at) → ((at : Stand) → at.place ≡ place → IsStable table es at)
    → (at : Stand) → at.place < place + 1 → IsStable table es at
stable_more table es place before here at below = elim (below_next at.place place below) [ inl less ↦ before at less | inr same ↦ here at same ]

pub by_both : (P : Bool → Type 0) → P false → P true → (b : Bool) → P b
by_both P off on false = off
by_both P off on true = on

pub by_four : (P : Bool → Bool → Type 0) → P false false → P true false → P false true → P true true → (a b : Bool) → P a b
by_four P none first second all false false = none
by_four P none first second all true false = first
by_four P none first second all false true = second
by_four P none first second all true true = all
