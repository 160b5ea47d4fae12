-- The numbers of bytes against the tables: each number is that of a data code, and each data code has its number.
use Rattle.std.proofs.Common.{◌≡◌, ◌⊎◌, inl, inr, ℕ, ◌+◌, ◌<◌, ◌≤◌, Bool, true, false, ◌&&◌, ◌||◌, not, nat_le, nat_lt, refl, sym, ap, subst, ◌∙◌, arith}
use Rattle.std.specs.Prelude.{◌==◌}
use Rattle.std.proofs.lemmas.Bool.{agree_below, agree_below_at, cases_lt, cases_Bool, and_parts, eqb-true, eqb-false, leb-true, ltb-true, ne_eqb}
use Rattle.std.proofs.lemmas.List.{get_or_past}
use Rattle.aztec_modes.proofs.TableFacts.{table_symbol-past, width_below, is_punct}
use Rattle.aztec_modes.specs.declared.mode.Mode.{Mode}
use Rattle.aztec_modes.specs.declared.mode.Mode.TheVariants.{Upper, Lower, Mixed, Punct, Digit}
use Rattle.aztec_modes.specs.declared.table.Symbol.{Symbol}
use Rattle.aztec_modes.specs.declared.table.Symbol.TheVariants.{Absent, One, Two, LatchTo, ShiftTo, Binary, Flag}
use Rattle.aztec_modes.specs.Codes.{table_symbol, code_table, mode_width}
use Rattle.aztec_best.specs.declared.numbers.TheConstants.{UPPER_NUMBERS, LOWER_NUMBERS, MIXED_NUMBERS, PUNCT_NUMBERS, DIGIT_NUMBERS}
use Rattle.aztec_best.specs.Numbers.{numbers_of, data_number, punct_length, capital_length, byte_length, is_pair, pair_of, controls_from}

is_one : ℕ → Symbol → Bool
is_one byte (One other) = other == byte
is_one byte (Two a b) = false
is_one byte (LatchTo to) = false
is_one byte (ShiftTo to) = false
is_one byte Binary = false
is_one byte Flag = false
is_one byte Absent = false

One_from : (byte : ℕ) (s : Symbol) → is_one byte s ≡ true → s ≡ One byte
unfolding is_one
One_from byte (One other) is = ap (λ (b : ℕ). One b) (eqb-true other byte is)
One_from byte (Two a b) is = absurd (cc)
One_from byte (LatchTo to) is = absurd (cc)
One_from byte (ShiftTo to) is = absurd (cc)
One_from byte Binary is = absurd (cc)
One_from byte Flag is = absurd (cc)
One_from byte Absent is = absurd (cc)

-- a byte's number, where it has one, is that of a data code for it
is_its_number : Mode → ℕ → Bool
is_its_number mode byte = (data_number mode byte == 0) || is_one byte (table_symbol mode (data_number mode byte))

its_numbers : (mode : Mode) → agree_below (λ b. is_its_number mode b) (λ b. true) 128 ≡ true
unfolding is_its_number is_one data_number numbers_of table_symbol code_table
its_numbers Upper = refl
its_numbers Lower = refl
its_numbers Mixed = refl
its_numbers Punct = refl
its_numbers Digit = refl

data_number-past : (mode : Mode) (byte : ℕ) → 128 ≤ byte → data_number mode byte ≡ 0
unfolding data_number numbers_of
data_number-past Upper byte past = get_or_past UPPER_NUMBERS byte 0 past
data_number-past Lower byte past = get_or_past LOWER_NUMBERS byte 0 past
data_number-past Mixed byte past = get_or_past MIXED_NUMBERS byte 0 past
data_number-past Punct byte past = get_or_past PUNCT_NUMBERS byte 0 past
data_number-past Digit byte past = get_or_past DIGIT_NUMBERS byte 0 past

or_right : (a b : Bool) → a ≡ false → (a || b) ≡ true → b ≡ true
or_right a b no_a e = grind arith

pub number_there : (mode : Mode) (byte : ℕ) → (data_number mode byte == 0) ≡ false → table_symbol mode (data_number mode byte) ≡ One byte
unfolding is_its_number
number_there mode byte some =
    elim (cases_lt byte 128) [
      | inl below ↦ One_from byte (table_symbol mode (data_number mode byte))
          (or_right (data_number mode byte == 0) (is_one byte (table_symbol mode (data_number mode byte))) some
          (agree_below_at (λ b. is_its_number mode b) (λ b. true) 128 byte (its_numbers mode) below))
      | inr past ↦ absurd (let none = data_number-past mode byte past in eqb-false (data_number mode byte) 0 some none)
    ]

-- a data code for a byte has its number; pairs stand in Punct alone; shifts lead to Punct, or from Lower and Digit to Upper
shift_fits : Mode → Mode → Bool
shift_fits mode Upper = nat_le (capital_length mode) (mode_width mode + 5)
shift_fits mode Lower = false
shift_fits mode Mixed = false
shift_fits mode Punct = nat_le (punct_length mode) (mode_width mode + 5)
shift_fits mode Digit = false

symbol_test : Mode → ℕ → Symbol → Bool
symbol_test mode k (One byte) = not (data_number mode byte == 0)
symbol_test mode k (Two a b) = is_punct mode && is_pair a b
symbol_test mode k (ShiftTo to) = shift_fits mode to
symbol_test mode k (LatchTo to) = true
symbol_test mode k Binary = true
symbol_test mode k Flag = true
symbol_test mode k Absent = true

symbols_within : (mode : Mode) → agree_below (λ k. symbol_test mode k (table_symbol mode k)) (λ k. true) 32 ≡ true
unfolding symbol_test shift_fits capital_length punct_length mode_width is_punct is_pair data_number numbers_of table_symbol code_table
symbols_within Upper = refl
symbols_within Lower = refl
symbols_within Mixed = refl
symbols_within Punct = refl
symbols_within Digit = refl

symbol_at : (mode : Mode) (k : ℕ) (s : Symbol) → table_symbol mode k ≡ s → symbol_test mode k s ≡ true
unfolding symbol_test
symbol_at mode k s is =
    subst (λ (t : Symbol). symbol_test mode k t ≡ true) is (elim (cases_lt k 32) [
      | inl below ↦ agree_below_at (λ k. symbol_test mode k (table_symbol mode k)) (λ k. true) 32 k (symbols_within mode) below
      | inr past ↦ subst (λ (t : Symbol). symbol_test mode k t ≡ true) (sym (table_symbol-past mode k (omega (arith, width_below mode)))) refl
    ])

not_true : (b : Bool) → not b ≡ true → b ≡ false
not_true true h = absurd (cc)
not_true false h = refl

pub one_numbered : (mode : Mode) (k byte : ℕ) → table_symbol mode k ≡ One byte → (data_number mode byte == 0) ≡ false
unfolding symbol_test
one_numbered mode k byte is = not_true (data_number mode byte == 0) (symbol_at mode k (One byte) is)

punct_only : (mode : Mode) → is_punct mode ≡ true → mode ≡ Punct
unfolding is_punct
punct_only Upper is = absurd (cc)
punct_only Lower is = absurd (cc)
punct_only Mixed is = absurd (cc)
punct_only Punct is = refl
punct_only Digit is = absurd (cc)

pub two_paired : (mode : Mode) (k a b : ℕ) → table_symbol mode k ≡ Two a b → (mode ≡ Punct) × (is_pair a b ≡ true)
unfolding symbol_test
two_paired mode k a b is =
    let parts = and_parts (is_punct mode) (is_pair a b) (symbol_at mode k (Two a b) is) in
    (punct_only mode parts.0, parts.1)

pub shift_leads : (mode to : Mode) (k : ℕ) → table_symbol mode k ≡ ShiftTo to
    → ((to ≡ Punct) × (punct_length mode ≤ mode_width mode + 5)) ⊎ ((to ≡ Upper) × (capital_length mode ≤ mode_width mode + 5))
unfolding symbol_test shift_fits
shift_leads mode Upper k is = inr (refl, leb-true (capital_length mode) (mode_width mode + 5) (symbol_at mode k (ShiftTo Upper) is))
shift_leads mode Lower k is = absurd (let e = symbol_at mode k (ShiftTo Lower) is in cc)
shift_leads mode Mixed k is = absurd (let e = symbol_at mode k (ShiftTo Mixed) is in cc)
shift_leads mode Punct k is = inl (refl, leb-true (punct_length mode) (mode_width mode + 5) (symbol_at mode k (ShiftTo Punct) is))
shift_leads mode Digit k is = absurd (let e = symbol_at mode k (ShiftTo Digit) is in cc)

-- bits by numbers
bits_grow : (mode : Mode) → (mode_width mode ≤ punct_length mode) × (punct_length mode ≤ capital_length mode)
unfolding mode_width punct_length capital_length
bits_grow Upper = (omega arith, omega arith)
bits_grow Lower = (omega arith, omega arith)
bits_grow Mixed = (omega arith, omega arith)
bits_grow Punct = (omega arith, omega arith)
bits_grow Digit = (omega arith, omega arith)

-- what the bits of a byte are
pub data ByteKind (mode : Mode) (byte bits : ℕ) : Type 0 where
  own : (data_number mode byte == 0) ≡ false → bits ≡ mode_width mode → ByteKind mode byte bits
  sign : (data_number mode byte == 0) ≡ true → (data_number Punct byte == 0) ≡ false → bits ≡ punct_length mode → ByteKind mode byte bits
  capital : (data_number mode byte == 0) ≡ true → (data_number Punct byte == 0) ≡ true → (data_number Upper byte == 0) ≡ false → bits ≡ capital_length mode
      → ByteKind mode byte bits
  none : (data_number mode byte == 0) ≡ true → (data_number Punct byte == 0) ≡ true → (data_number Upper byte == 0) ≡ true → bits ≡ 1073741824
      → ByteKind mode byte bits

pub byte_kind : (mode : Mode) (byte : ℕ) → ByteKind mode byte (byte_length mode byte)
unfolding byte_length
byte_kind mode byte =
    elim (cases_Bool (data_number mode byte == 0)) [
      | inr is_own ↦ own is_own (rw is_own refl)
      | inl not_own ↦ elim (cases_Bool (data_number Punct byte == 0)) [
        | inr is_sign ↦ sign not_own is_sign (rw (not_own, is_sign) refl)
        | inl not_sign ↦ elim (cases_Bool (data_number Upper byte == 0)) [
          | inr is_capital ↦ capital not_own not_sign is_capital (rw (not_own, not_sign, is_capital) refl)
          | inl not_capital ↦ none not_own not_sign not_capital (rw (not_own, not_sign, not_capital) refl)
        ]
      ]
    ]

pub own_bound : (mode : Mode) (byte bits : ℕ) → ByteKind mode byte bits → (data_number mode byte == 0) ≡ false → bits ≤ mode_width mode
own_bound mode byte bits (own is e) some = omega arith
own_bound mode byte bits (sign is is_sign e) some = absurd (cc)
own_bound mode byte bits (capital is is_sign is_capital e) some = absurd (cc)
own_bound mode byte bits (none is is_sign is_capital e) some = absurd (cc)

pub sign_bound : (mode : Mode) (byte bits : ℕ) → ByteKind mode byte bits → (data_number Punct byte == 0) ≡ false → bits ≤ punct_length mode
sign_bound mode byte bits (own is e) some = omega (arith, bits_grow mode)
sign_bound mode byte bits (sign is is_sign e) some = omega arith
sign_bound mode byte bits (capital is is_sign is_capital e) some = absurd (cc)
sign_bound mode byte bits (none is is_sign is_capital e) some = absurd (cc)

pub capital_bound : (mode : Mode) (byte bits : ℕ) → ByteKind mode byte bits → (data_number Upper byte == 0) ≡ false → bits ≤ capital_length mode
capital_bound mode byte bits (own is e) some = omega (arith, bits_grow mode)
capital_bound mode byte bits (sign is is_sign e) some = omega (arith, bits_grow mode)
capital_bound mode byte bits (capital is is_sign is_capital e) some = omega arith
capital_bound mode byte bits (none is is_sign is_capital e) some = absurd (cc)

-- a pair has a number in Punct
pub pair_there : (a b : ℕ) → is_pair a b ≡ true → (k : ℕ) × (table_symbol Punct k ≡ Two a b)
unfolding is_pair table_symbol code_table
pair_there a b is =
    elim (cases_Bool ((a == 13) && (b == 10))) [
      | inl crlf ↦ let parts = and_parts (a == 13) (b == 10) crlf in (2, named a b 13 10 2 refl (eqb-true a 13 parts.0) (eqb-true b 10 parts.1))
      | inr other ↦
          let parts = and_parts ((a == 46) || ((a == 44) || (a == 58))) (b == 32) (or_right _ _ other is) in
          elim (cases_Bool (a == 46)) [
            | inl dot ↦ (3, named a b 46 32 3 refl (eqb-true a 46 dot) (eqb-true b 32 parts.1))
            | inr not_dot ↦ elim (cases_Bool (a == 44)) [
              | inl comma ↦ (4, named a b 44 32 4 refl (eqb-true a 44 comma) (eqb-true b 32 parts.1))
              | inr not_comma ↦ (5, named a b 58 32 5 refl (eqb-true a 58 (or_right _ _ not_comma (or_right _ _ not_dot parts.0))) (eqb-true b 32 parts.1))
            ]
          ]
    ]
  where
    named : (a b x y k : ℕ) → table_symbol Punct k ≡ Two x y → a ≡ x → b ≡ y → table_symbol Punct k ≡ Two a b
    named a b x y k is ea eb = is ∙ ap (λ (n : ℕ). Two n y) (sym ea) ∙ ap (λ (n : ℕ). Two a n) (sym eb)

pub width_few : (mode : Mode) → mode_width mode ≤ 5
unfolding mode_width
width_few Upper = omega arith
width_few Lower = omega arith
width_few Mixed = omega arith
width_few Punct = omega arith
width_few Digit = omega arith

-- each data code has the number by which it is found, and stands before the other codes
code_test : Mode → ℕ → Symbol → Bool
code_test mode k (One byte) = (data_number mode byte == k) && nat_lt k (controls_from mode)
code_test mode k (Two a b) = pair_of a == k
code_test mode k (ShiftTo to) = (k == 0) || nat_le (controls_from mode) k
code_test mode k (LatchTo to) = (k == 0) || nat_le (controls_from mode) k
code_test mode k Binary = (k == 0) || nat_le (controls_from mode) k
code_test mode k Flag = (k == 0) || nat_le (controls_from mode) k
code_test mode k Absent = true

codes_within : (mode : Mode) → agree_below (λ k. code_test mode k (table_symbol mode k)) (λ k. true) 32 ≡ true
unfolding code_test controls_from pair_of data_number numbers_of table_symbol code_table
codes_within Upper = refl
codes_within Lower = refl
codes_within Mixed = refl
codes_within Punct = refl
codes_within Digit = refl

code_at : (mode : Mode) (k : ℕ) (s : Symbol) → table_symbol mode k ≡ s → code_test mode k s ≡ true
unfolding code_test
code_at mode k s is =
    subst (λ (t : Symbol). code_test mode k t ≡ true) is (elim (cases_lt k 32) [
      | inl below ↦ agree_below_at (λ k. code_test mode k (table_symbol mode k)) (λ k. true) 32 k (codes_within mode) below
      | inr past ↦ subst (λ (t : Symbol). code_test mode k t ≡ true) (sym (table_symbol-past mode k (omega (arith, width_below mode)))) refl
    ])

pub one_at : (mode : Mode) (k byte : ℕ) → table_symbol mode k ≡ One byte → (data_number mode byte ≡ k) × (k < controls_from mode)
unfolding code_test
one_at mode k byte is =
    let parts = and_parts (data_number mode byte == k) (nat_lt k (controls_from mode)) (code_at mode k (One byte) is) in
    (eqb-true (data_number mode byte) k parts.0, ltb-true k (controls_from mode) parts.1)

pub two_at : (mode : Mode) (k a b : ℕ) → table_symbol mode k ≡ Two a b → pair_of a ≡ k
unfolding code_test
two_at mode k a b is = eqb-true (pair_of a) k (code_at mode k (Two a b) is)

tail_or : (mode : Mode) (k : ℕ) → ((k == 0) || nat_le (controls_from mode) k) ≡ true → (k ≡ 0 → ⊥) → k < controls_from mode → ⊥
tail_or mode k is some below =
    let late : controls_from mode ≤ k = leb-true (controls_from mode) k (or_right (k == 0) (nat_le (controls_from mode) k) (ne_eqb k 0 some) is) in omega arith

-- a number before the tail, other than 0, is that of a data code
pub data_alone : (mode : Mode) (k : ℕ) (s : Symbol) → table_symbol mode k ≡ s → (k ≡ 0 → ⊥) → k < controls_from mode
    → (s ≡ Absent) ⊎ (((byte : ℕ) × (s ≡ One byte)) ⊎ ((a b : ℕ) × (s ≡ Two a b)))
unfolding code_test
data_alone mode k (One byte) is some below = inr (inl (byte, refl))
data_alone mode k (Two a b) is some below = inr (inr (a, b, refl))
data_alone mode k (ShiftTo to) is some below = absurd (tail_or mode k (code_at mode k (ShiftTo to) is) some below)
data_alone mode k (LatchTo to) is some below = absurd (tail_or mode k (code_at mode k (LatchTo to) is) some below)
data_alone mode k Binary is some below = absurd (tail_or mode k (code_at mode k Binary is) some below)
data_alone mode k Flag is some below = absurd (tail_or mode k (code_at mode k Flag is) some below)
data_alone mode k Absent is some below = inl refl

tail_some : (mode : Mode) → 5 < controls_from mode
unfolding controls_from
tail_some Upper = omega arith
tail_some Lower = omega arith
tail_some Mixed = omega arith
tail_some Punct = omega arith
tail_some Digit = omega arith

pub tail_few : (mode : Mode) → (0 < controls_from mode) × (controls_from mode ≤ 31)
unfolding controls_from
tail_few Upper = (omega arith, omega arith)
tail_few Lower = (omega arith, omega arith)
tail_few Mixed = (omega arith, omega arith)
tail_few Punct = (omega arith, omega arith)
tail_few Digit = (omega arith, omega arith)

pub number_few : (mode : Mode) (byte : ℕ) → data_number mode byte < controls_from mode
number_few mode byte =
    elim (cases_Bool (data_number mode byte == 0)) [
      | inl nothing ↦ let e : data_number mode byte ≡ 0 = eqb-true (data_number mode byte) 0 nothing in omega (arith, tail_some mode)
      | inr some ↦ (one_at mode (data_number mode byte) byte (number_there mode byte some)).1
    ]

pub pair_few : (mode : Mode) (byte : ℕ) → pair_of byte < controls_from mode
unfolding pair_of
pair_few mode byte =
    let least = tail_some mode in
    elim (cases_Bool (byte == 13)) [
      | inl cr ↦ rw cr (omega arith)
      | inr not_cr ↦ elim (cases_Bool (byte == 46)) [
        | inl dot ↦ rw (not_cr, dot) (omega arith)
        | inr not_dot ↦ elim (cases_Bool (byte == 44)) [ inl comma ↦ rw (not_cr, not_dot, comma) (omega arith) | inr not_comma ↦ rw (not_cr, not_dot, not_comma) (omega arith) ]
      ]
    ]
