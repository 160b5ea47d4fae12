-- What holds of each symbol of the five tables. A fact is a test that computes over the whole table.
use Rattle.std.proofs.Common.{◌≡◌, ℕ, List, ◌+◌, ◌^◌, ◌<◌, ◌≤◌, inl, inr, Bool, true, false, ◌&&◌, ◌||◌, not, refl, sym, ap, subst, ◌∙◌, arith}
use Rattle.std.specs.Prelude.{◌==◌, Some}
use Rattle.std.proofs.lemmas.Bool.{agree_below, agree_below_at, cases_lt, and_parts, eqb-true, eq-eqb}
use Rattle.std.proofs.lemmas.List.{get_or_past}
use Rattle.bar_base.specs.declared.element.Element.{Element}
use Rattle.aztec_modes.specs.declared.mode.Mode.{Mode}
use Rattle.aztec_modes.specs.declared.mode.Mode.TheVariants.{Upper, Lower, Mixed, Punct, Digit}
use Rattle.aztec_modes.specs.declared.table.Symbol.{Symbol}
use Rattle.aztec_modes.specs.declared.table.Symbol.TheVariants.{Absent, One, Two, LatchTo, ShiftTo, Binary, Flag}
use Rattle.aztec_modes.specs.declared.table.TheConstants.{UPPER, LOWER, MIXED, PUNCT, DIGIT}
use Rattle.aztec_modes.specs.Codes.{code_table, table_symbol, mode_width, data_spelled}
use Rattle.aztec_modes.specs.Entry.{mode_number, is_latch, is_shift, latch_number, shift_number, flag_width}

-- No symbol stands past the codes of the mode's width.
pub table_symbol-past : (mode : Mode) (k : ℕ) → 2 ^ mode_width mode ≤ k → table_symbol mode k ≡ Absent
unfolding table_symbol code_table mode_width
table_symbol-past Upper k past = get_or_past UPPER k Absent past
table_symbol-past Lower k past = get_or_past LOWER k Absent past
table_symbol-past Mixed k past = get_or_past MIXED k Absent past
table_symbol-past Punct k past = get_or_past PUNCT k Absent past
table_symbol-past Digit k past = get_or_past DIGIT k Absent past

pub width_below : (mode : Mode) → 2 ^ mode_width mode ≤ 32
unfolding mode_width
width_below Upper = omega arith
width_below Lower = omega arith
width_below Mixed = omega arith
width_below Punct = omega arith
width_below Digit = omega arith

-- A test that passes at the numbers below 32 of each mode, and at no symbol, passes everywhere.
pub each_symbol : (test : Mode → ℕ → Symbol → Bool)
    → ((mode : Mode) → agree_below (λ k. test mode k (table_symbol mode k)) (λ k. true) 32 ≡ true)
    → ((mode : Mode) (k : ℕ) → test mode k Absent ≡ true)
    → (mode : Mode) (k : ℕ) → test mode k (table_symbol mode k) ≡ true
each_symbol test within none mode k =
    elim (cases_lt k 32) [
      | inl below ↦ agree_below_at (λ k. test mode k (table_symbol mode k)) (λ k. true) 32 k (within mode) below
      | inr past ↦ subst (λ (s : Symbol). test mode k s ≡ true) (sym (table_symbol-past mode k (omega (arith, width_below mode)))) (none mode k)
    ]

is_absent : Symbol → Bool
is_absent Absent = true
is_absent (One a) = false
is_absent (Two a b) = false
is_absent (LatchTo m) = false
is_absent (ShiftTo m) = false
is_absent Binary = false
is_absent Flag = false

-- A symbol that stands in a mode has a number of the mode's width.
pub number_below : (mode : Mode) (k : ℕ) (s : Symbol) → table_symbol mode k ≡ s → (s ≡ Absent → ⊥) → k < 2 ^ mode_width mode
number_below mode k s is there =
    elim (cases_lt k (2 ^ mode_width mode)) [ inl below ↦ below | inr past ↦ absurd (there (sym is ∙ table_symbol-past mode k past)) ]

-- The table finds the latch and the shift to a mode, and a symbol has one number.
control_number : Mode → Symbol → ℕ → ℕ
control_number mode (LatchTo to) k = latch_number mode to
control_number mode (ShiftTo to) k = shift_number mode to
control_number mode Binary k = 31
control_number mode Flag k = 0
control_number mode (One a) k = k
control_number mode (Two a b) k = k
control_number mode Absent k = k

number_test : Mode → ℕ → Symbol → Bool
number_test mode k s = control_number mode s k == k

number_within : (mode : Mode) → agree_below (λ k. number_test mode k (table_symbol mode k)) (λ k. true) 32 ≡ true
unfolding number_test control_number latch_number shift_number is_latch is_shift mode_number table_symbol code_table
number_within Upper = refl
number_within Lower = refl
number_within Mixed = refl
number_within Punct = refl
number_within Digit = refl

number_none : (mode : Mode) (k : ℕ) → number_test mode k Absent ≡ true
unfolding number_test control_number
number_none mode k = eq-eqb k k refl

number_at : (mode : Mode) (k : ℕ) (s : Symbol) → table_symbol mode k ≡ s → control_number mode s k ≡ k
unfolding number_test
number_at mode k s is =
    eqb-true (control_number mode s k) k
    (subst (λ (t : Symbol). number_test mode k t ≡ true) is (each_symbol number_test number_within number_none mode k))

pub latch_number-at : (mode to : Mode) (k : ℕ) → table_symbol mode k ≡ LatchTo to → k ≡ latch_number mode to
unfolding control_number
latch_number-at mode to k is = sym (number_at mode k (LatchTo to) is)

pub shift_number-at : (mode to : Mode) (k : ℕ) → table_symbol mode k ≡ ShiftTo to → k ≡ shift_number mode to
unfolding control_number
shift_number-at mode to k is = sym (number_at mode k (ShiftTo to) is)

unfoldable pub is_punct : Mode → Bool
is_punct Upper = false
is_punct Lower = false
is_punct Mixed = false
is_punct Punct = true
is_punct Digit = false

Punct_from : (mode : Mode) → is_punct mode ≡ true → mode ≡ Punct
unfolding is_punct
Punct_from Upper is = absurd (cc)
Punct_from Lower is = absurd (cc)
Punct_from Mixed is = absurd (cc)
Punct_from Punct is = refl
Punct_from Digit is = absurd (cc)

-- FLG(n) is code 0 of Punct; P/S is code 0 of each other mode; no mode has a shift to itself or from Punct; B/S stands where codes
-- have 5 bits, as code 31.
control_test : Mode → ℕ → Symbol → Bool
control_test mode k Flag = is_punct mode && (k == 0)
control_test mode k (ShiftTo to) = not (is_punct mode) && (not (is_punct to) || (k == 0))
control_test mode k Binary = (mode_width mode == 5) && (k == 31)
control_test mode k (LatchTo to) = true
control_test mode k (One a) = true
control_test mode k (Two a b) = true
control_test mode k Absent = true

control_within : (mode : Mode) → agree_below (λ k. control_test mode k (table_symbol mode k)) (λ k. true) 32 ≡ true
unfolding control_test is_punct mode_width table_symbol code_table
control_within Upper = refl
control_within Lower = refl
control_within Mixed = refl
control_within Punct = refl
control_within Digit = refl

control_none : (mode : Mode) (k : ℕ) → control_test mode k Absent ≡ true
unfolding control_test
control_none mode k = refl

control_at : (mode : Mode) (k : ℕ) (s : Symbol) → table_symbol mode k ≡ s → control_test mode k s ≡ true
control_at mode k s is = subst (λ (t : Symbol). control_test mode k t ≡ true) is (each_symbol control_test control_within control_none mode k)

pub flag_at : (mode : Mode) (k : ℕ) → table_symbol mode k ≡ Flag → (mode ≡ Punct) × (k ≡ 0)
unfolding control_test
flag_at mode k is =
    let parts = and_parts (is_punct mode) (k == 0) (control_at mode k Flag is) in
    (Punct_from mode parts.0, eqb-true k 0 parts.1)

pub binary_at : (mode : Mode) (k : ℕ) → table_symbol mode k ≡ Binary → (mode_width mode ≡ 5) × (k ≡ 31)
unfolding control_test
binary_at mode k is =
    let parts = and_parts (mode_width mode == 5) (k == 31) (control_at mode k Binary is) in
    (eqb-true (mode_width mode) 5 parts.0, eqb-true k 31 parts.1)

-- A shift stands outside Punct.
pub shift_outside : (mode to : Mode) (k : ℕ) → table_symbol mode k ≡ ShiftTo to → is_punct mode ≡ false
unfolding control_test
shift_outside mode to k is =
    let parts = and_parts (not (is_punct mode)) (not (is_punct to) || (k == 0)) (control_at mode k (ShiftTo to) is) in
    not_is (is_punct mode) parts.0
  where
    not_is : (b : Bool) → not b ≡ true → b ≡ false
    not_is true h = absurd (cc)
    not_is false h = refl

pub shift_to_punct : (mode : Mode) (k : ℕ) → table_symbol mode k ≡ ShiftTo Punct → k ≡ 0
unfolding control_test is_punct
shift_to_punct mode k is =
    let parts = and_parts (not (is_punct mode)) (k == 0) (control_at mode k (ShiftTo Punct) is) in
    eqb-true k 0 parts.1

pub flag_width-outside : (mode : Mode) → is_punct mode ≡ false → flag_width mode ≡ mode_width mode + 8
unfolding flag_width is_punct
flag_width-outside Upper is = refl
flag_width-outside Lower is = refl
flag_width-outside Mixed is = refl
flag_width-outside Punct is = absurd (cc)
flag_width-outside Digit is = refl

-- A number of a symbol is below 32.
pub number_few : (mode : Mode) (k : ℕ) (s : Symbol) → table_symbol mode k ≡ s → (s ≡ Absent → ⊥) → k < 32
number_few mode k s is present = omega (arith, number_below mode k s is present, width_below mode)

pub data_present : (s : Symbol) (spelled : List Element) → data_spelled s ≡ Some spelled → s ≡ Absent → ⊥
unfolding data_spelled
data_present Absent spelled is h = cc
data_present (One a) spelled is h = cc
data_present (Two a b) spelled is h = cc
data_present (LatchTo to) spelled is h = cc
data_present (ShiftTo to) spelled is h = cc
data_present Binary spelled is h = cc
data_present Flag spelled is h = cc
