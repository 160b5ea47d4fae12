-- From set B on with nothing on, each element is spelled by at most three values that lead back there.
use Rattle.std.proofs.Common.{◌≡◌, ℕ, ◌+◌, ◌-◌, ◌*◌, ◌<◌, ◌≤◌, Bool, true, false, List, [], ◌∷◌, length, Some, None, All, refl, sym, subst, ◌∙◌, inl, inr, arith}
use Rattle.std.proofs.lemmas.Bool.{cases_lt}
use Rattle.std.proofs.lemmas.Bool.Decides.{nat_tests}
use Rattle.std.proofs.lemmas.List.Elements.{All-head, All-tail}
use Rattle.bar_base.specs.declared.element.Element.{Element}
use Rattle.bar_base.specs.declared.element.Element.TheVariants as element
use Rattle.bar_base.specs.Elements.{IsElement}
use Rattle.code128_best.specs.declared.state.CodeSet.{CodeSet}
use Rattle.code128_best.specs.declared.state.CodeSet.TheVariants.{A, B, C}
use Rattle.code128_best.specs.declared.state.State.{State}
use Rattle.code128_best.specs.declared.effect.Effect.{Effect}
use Rattle.code128_best.specs.Rules as rule
use Rattle.code128_best.specs.Rules.{is_b}
use Rattle.code128_best.specs.Values.{character_of_set, other_set, reading_set, reads_high, character_of, spent, with_fnc4, is_free, act_in_a, act_in_b, act_in_c, act_of}
use Rattle.code128_best.specs.Spelling.{ValuesSpell, ended, onward, plain, IsCode128Element}

-- set B with the latch off
abbrev in_b : (fnc4 shift : Bool) → State
in_b fnc4 shift = record { set = B; latch = false; fnc4 = fnc4; shift = shift }

character_step : (fnc4 shift : Bool) (value byte : ℕ) (values : List ℕ) (es : List Element) → value < 96 → character_of (in_b fnc4 shift) value ≡ byte
    → ValuesSpell (plain B) values es → ValuesSpell (in_b fnc4 shift) (value ∷ values) (element.Byte byte ∷ es)
unfolding plain spent
character_step fnc4 shift value byte values es below is spells =
    subst (λ (b : ℕ). ValuesSpell (in_b fnc4 shift) (value ∷ values) (element.Byte b ∷ es)) is (onward (rule.character is_b below) spells)

shift_step : (fnc4 : Bool) (values : List ℕ) (es : List Element) → ValuesSpell (in_b fnc4 true) values es → ValuesSpell (in_b fnc4 false) (98 ∷ values) es
shift_step fnc4 values es spells = onward (rule.shift_on is_b refl) spells

fnc4_step : (values : List ℕ) (es : List Element) → ValuesSpell (in_b true false) values es → ValuesSpell (in_b false false) (100 ∷ values) es
unfolding with_fnc4
fnc4_step values es spells = onward (rule.fnc4_in_b refl refl) spells

fnc1_step : (values : List ℕ) (es : List Element) → ValuesSpell (plain B) values es → ValuesSpell (plain B) (102 ∷ values) (element.Fnc1 ∷ es)
unfolding plain
fnc1_step values es spells = onward (rule.fnc1 (record { shift = refl; fnc4 = refl })) spells

in_a_low : (fnc4 : Bool) (byte : ℕ) → byte < 32 → character_of_set A (byte + 64) ≡ byte
unfolding character_of_set
in_a_low fnc4 byte low = grind (arith, nat_tests)

byte_spelled : (byte : ℕ) (values : List ℕ) (es : List Element) → byte < 256 → ValuesSpell (plain B) values es
    → (more : List ℕ) × ValuesSpell (plain B) more (element.Byte byte ∷ es) × (length more ≤ length values + 3)
unfolding plain character_of reads_high reading_set other_set character_of_set
byte_spelled byte values es small spells =
    elim (cases_lt byte 32) [
      | inl control ↦ (
        98 ∷ (byte + 64) ∷ values,
        shift_step false _ _ (character_step false true (byte + 64) byte values es (omega arith) (in_a_low false byte control) spells),
        omega arith,
      )
      | inr past_control ↦ elim (cases_lt byte 128) [
        | inl low ↦ ((byte - 32) ∷ values, character_step false false (byte - 32) byte values es (omega arith) (omega arith) spells, omega arith)
        | inr past_low ↦ elim (cases_lt byte 160) [
          | inl control ↦ (
            100 ∷ 98 ∷ (byte - 128 + 64) ∷ values,
            fnc4_step _ _ (shift_step true _ _ (character_step true true (byte - 128 + 64) byte values es (omega arith)
                (let e : character_of_set A (byte - 128 + 64) + 128 ≡ byte = omega (arith, in_a_low true (byte - 128) (omega arith)) in e) spells)),
            omega arith,
          )
          | inr high ↦ (
            100 ∷ (byte - 160) ∷ values,
            fnc4_step _ _ (character_step true false (byte - 160) byte values es (omega arith) (omega arith) spells),
            omega arith,
          )
        ]
      ]
    ]

pub spelled_from_b : (es : List Element) → All IsElement es → All IsCode128Element es → (values : List ℕ) × ValuesSpell (plain B) values es × (length values ≤ 3 * length es)
unfolding plain is_free
spelled_from_b [] valid spelled = ([], ended refl, omega arith)
spelled_from_b (element.Byte byte ∷ es) valid spelled =
    let (values, spells, few) = spelled_from_b es (All-tail IsElement (element.Byte byte) es valid) (All-tail IsCode128Element (element.Byte byte) es spelled) in
    let (more, all, fewer) = byte_spelled byte values es (All-head IsElement (element.Byte byte) es valid) spells in
    (more, all, omega arith)
spelled_from_b (element.Eci number ∷ es) valid spelled = absurd (All-head IsCode128Element (element.Eci number) es spelled)
spelled_from_b (element.Fnc1 ∷ es) valid spelled =
    let (values, spells, few) = spelled_from_b es (All-tail IsElement element.Fnc1 es valid) (All-tail IsCode128Element element.Fnc1 es spelled) in
    (102 ∷ values, fnc1_step values es spells, omega arith)

none_acts : (set : CodeSet) (latch fnc4 shift : Bool) (value : ℕ) → 103 ≤ value → act_of (record { set = set; latch = latch; fnc4 = fnc4; shift = shift }) value ≡ None
unfolding act_of act_in_a act_in_b act_in_c
none_acts A latch fnc4 shift value large = grind (arith, nat_tests)
none_acts B latch fnc4 shift value large = grind (arith, nat_tests)
none_acts C latch fnc4 shift value large = grind (arith, nat_tests)

-- only values below 103 act
pub act_small : (s : State) (value : ℕ) (effect : Effect) → act_of s value ≡ Some effect → value < 103
act_small s value effect acts =
    elim (cases_lt value 103) [
      | inl small ↦ small
      | inr large ↦ absurd (let e : None ≡ Some effect = sym (none_acts s.set s.latch s.fnc4 s.shift value large) ∙ acts in cc)
    ]
