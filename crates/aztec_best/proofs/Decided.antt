-- Whether a code spells the front of elements can be decided.
use Rattle.std.proofs.Common.{◌≡◌, ◌⊎◌, inl, inr, ℕ, ◌^◌, ◌<◌, ◌≤◌, Bool, true, false, List, [], ◌∷◌, ◌++◌, refl, sym, ap, ◌∙◌, arith, if◌then◌else◌, All}
use Rattle.std.specs.Prelude.{◌==◌, Some}
use Rattle.std.proofs.lemmas.Bool.{cases_eq, cases_lt}
use Rattle.bar_base.specs.Elements.{IsElement}
use Rattle.bar_base.specs.declared.element.Element.{Element}
use Rattle.bar_base.specs.declared.element.Element.TheVariants as element
use Rattle.aztec_modes.specs.declared.mode.Mode.{Mode}
use Rattle.aztec_modes.specs.declared.mode.Mode.TheVariants.{Upper, Lower, Mixed, Punct, Digit}
use Rattle.aztec_modes.specs.declared.code.Code.{Code}
use Rattle.aztec_modes.specs.declared.code.Code.TheVariants.{Latch, Plain, Shift, Fnc1, Eci, Run}
use Rattle.aztec_modes.specs.declared.table.Symbol.{Symbol}
use Rattle.aztec_modes.specs.declared.table.Symbol.TheVariants.{Absent, One, Two, LatchTo, ShiftTo, Binary, Flag}
use Rattle.aztec_modes.specs.Codes.{table_symbol, data_spelled}
use Rattle.aztec_modes.specs.Entry.{mode_number, latch_number, shift_number, bytes_as_elements, SpellsFront}
use Rattle.aztec_modes.proofs.Forms.{latch, plain, shift, fnc1, eci, short_run, long_run, entry_of, flag_in, has_flag}
use Rattle.aztec_best.specs.Front.{bytes_ahead}
use Rattle.aztec_best.proofs.Fronts.{FirstBytes, first_bytes, bytes_ahead-bytes}

mode_of : ℕ → Mode
mode_of n = if n == 0 then Upper else if n == 1 then Lower else if n == 2 then Mixed else if n == 3 then Punct else Digit

mode_of-number : (m : Mode) → mode_of (mode_number m) ≡ m
unfolding mode_of mode_number
mode_of-number Upper = refl
mode_of-number Lower = refl
mode_of-number Mixed = refl
mode_of-number Punct = refl
mode_of-number Digit = refl

same_mode : (a b : Mode) → (a ≡ b) ⊎ (a ≡ b → ⊥)
same_mode a b =
    elim (cases_eq (mode_number a) (mode_number b)) [
      | inl alike ↦ inl (sym (mode_of-number a) ∙ ap mode_of alike ∙ mode_of-number b)
      | inr apart ↦ inr (λ same. apart (ap mode_number same))
    ]

is_latch : (s : Symbol) (to : Mode) → (s ≡ LatchTo to) ⊎ (s ≡ LatchTo to → ⊥)
is_latch (LatchTo m) to = elim (same_mode m to) [ inl same ↦ inl (ap LatchTo same) | inr apart ↦ inr (λ h. apart (cc)) ]
is_latch Absent to = inr (λ h. absurd (cc))
is_latch (One byte) to = inr (λ h. absurd (cc))
is_latch (Two a b) to = inr (λ h. absurd (cc))
is_latch (ShiftTo m) to = inr (λ h. absurd (cc))
is_latch Binary to = inr (λ h. absurd (cc))
is_latch Flag to = inr (λ h. absurd (cc))

is_shift : (s : Symbol) (to : Mode) → (s ≡ ShiftTo to) ⊎ (s ≡ ShiftTo to → ⊥)
is_shift (ShiftTo m) to = elim (same_mode m to) [ inl same ↦ inl (ap ShiftTo same) | inr apart ↦ inr (λ h. apart (cc)) ]
is_shift Absent to = inr (λ h. absurd (cc))
is_shift (One byte) to = inr (λ h. absurd (cc))
is_shift (Two a b) to = inr (λ h. absurd (cc))
is_shift (LatchTo m) to = inr (λ h. absurd (cc))
is_shift Binary to = inr (λ h. absurd (cc))
is_shift Flag to = inr (λ h. absurd (cc))

is_binary : (s : Symbol) → (s ≡ Binary) ⊎ (s ≡ Binary → ⊥)
is_binary Binary = inl refl
is_binary Absent = inr (λ h. absurd (cc))
is_binary (One byte) = inr (λ h. absurd (cc))
is_binary (Two a b) = inr (λ h. absurd (cc))
is_binary (LatchTo m) = inr (λ h. absurd (cc))
is_binary (ShiftTo m) = inr (λ h. absurd (cc))
is_binary Flag = inr (λ h. absurd (cc))

-- Elements begin with a byte, or do not.
record BeginsWith (byte : ℕ) (es : List Element) : Type 0 where
  rest : List Element
  splits : es ≡ element.Byte byte ∷ rest

byte_front : (byte : ℕ) (es : List Element) → BeginsWith byte es ⊎ (BeginsWith byte es → ⊥)
byte_front byte [] = inr (λ h. let e = h.splits in absurd (cc))
byte_front byte (element.Byte other ∷ es) =
    elim (cases_eq other byte) [
      | inl same ↦ inl (record { rest = es; splits = ap (λ (n : ℕ). element.Byte n ∷ es) same })
      | inr apart ↦ inr (λ h. let e = h.splits in apart (cc))
    ]
byte_front byte (element.Eci number ∷ es) = inr (λ h. let e = h.splits in absurd (cc))
byte_front byte (element.Fnc1 ∷ es) = inr (λ h. let e = h.splits in absurd (cc))

-- What a data code spells begins the elements.
pub record DataFront (s : Symbol) (es : List Element) : Type 0 where
  pub spelled : List Element
  pub rest : List Element
  pub is : data_spelled s ≡ Some spelled
  pub splits : es ≡ spelled ++ rest

one_front : (byte : ℕ) (es : List Element) → DataFront (One byte) es → BeginsWith byte es
unfolding data_spelled
one_front byte es front =
    let is : Some (element.Byte byte ∷ []) ≡ Some front.spelled = front.is in
    let spelled : element.Byte byte ∷ [] ≡ front.spelled = cc in
    record { rest = front.rest; splits = front.splits ∙ ap (λ (xs : List Element). xs ++ front.rest) (sym spelled) }

record BeginsWithTwo (a b : ℕ) (es : List Element) : Type 0 where
  rest : List Element
  splits : es ≡ element.Byte a ∷ element.Byte b ∷ rest

two_front : (a b : ℕ) (es : List Element) → DataFront (Two a b) es → BeginsWithTwo a b es
unfolding data_spelled
two_front a b es front =
    let is : Some (element.Byte a ∷ element.Byte b ∷ []) ≡ Some front.spelled = front.is in
    let spelled : element.Byte a ∷ element.Byte b ∷ [] ≡ front.spelled = cc in
    record { rest = front.rest; splits = front.splits ∙ ap (λ (xs : List Element). xs ++ front.rest) (sym spelled) }

bytes_front : (a b : ℕ) (es : List Element) → BeginsWithTwo a b es ⊎ (BeginsWithTwo a b es → ⊥)
bytes_front a b es =
    elim (byte_front a es) [
      | inr not ↦ inr (λ h. not (record { rest = element.Byte b ∷ h.rest; splits = h.splits }))
      | inl first ↦ elim (byte_front b first.rest) [
        | inl second ↦ inl (record { rest = second.rest; splits = first.splits ∙ ap (λ (xs : List Element). element.Byte a ∷ xs) second.splits })
        | inr not ↦ inr (λ h. not (record { rest = h.rest; splits = let e : element.Byte a ∷ first.rest ≡ element.Byte a ∷ element.Byte b ∷ h.rest = sym first.splits ∙ h.splits in cc }))
      ]
    ]

no_data : (s : Symbol) (es : List Element) → ((spelled : List Element) → data_spelled s ≡ Some spelled → ⊥) → DataFront s es ⊎ (DataFront s es → ⊥)
no_data s es none = inr (λ front. none front.spelled front.is)

pub data_front : (s : Symbol) (es : List Element) → DataFront s es ⊎ (DataFront s es → ⊥)
unfolding data_spelled
data_front (One byte) es =
    elim (byte_front byte es) [
      | inl front ↦ inl (record { spelled = element.Byte byte ∷ []; rest = front.rest; is = refl; splits = front.splits })
      | inr not ↦ inr (λ front. not (one_front byte es front))
    ]
data_front (Two a b) es =
    elim (bytes_front a b es) [
      | inl front ↦ inl (record { spelled = element.Byte a ∷ element.Byte b ∷ []; rest = front.rest; is = refl; splits = front.splits })
      | inr not ↦ inr (λ front. not (two_front a b es front))
    ]
data_front Absent es = no_data Absent es (λ spelled is. absurd (cc))
data_front (LatchTo to) es = no_data (LatchTo to) es (λ spelled is. absurd (cc))
data_front (ShiftTo to) es = no_data (ShiftTo to) es (λ spelled is. absurd (cc))
data_front Binary es = no_data Binary es (λ spelled is. absurd (cc))
data_front Flag es = no_data Flag es (λ spelled is. absurd (cc))

-- A data code, a shift and one, a latch spell the front where the table has them and what they spell begins the elements.
pub plain_fits : (m : Mode) (number : ℕ) (es : List Element) → DataFront (table_symbol m number) es → SpellsFront m (Plain number) es
plain_fits m number es front =
    record { bits = _; spelled = front.spelled; rest = front.rest; next = m; entry = entry_of (plain {mode = m} {number = number} front.is); splits = front.splits }

pub shift_fits : (m to : Mode) (number : ℕ) (es : List Element) → table_symbol m (shift_number m to) ≡ ShiftTo to → DataFront (table_symbol to number) es
    → SpellsFront m (Shift to number) es
shift_fits m to number es is front = record {
  bits = _;
  spelled = front.spelled;
  rest = front.rest;
  next = m;
  entry = entry_of (shift {mode = m} {to = to} (shift_number m to) {second = number} is front.is);
  splits = front.splits;
}

pub latch_fits : (m to : Mode) (es : List Element) → table_symbol m (latch_number m to) ≡ LatchTo to → SpellsFront m (Latch to) es
latch_fits m to es is =
    record { bits = _; spelled = []; rest = es; next = to; entry = entry_of (latch {mode = m} (latch_number m to) is); splits = refl }

pub fnc1_fits : (m : Mode) (es rest : List Element) → es ≡ element.Fnc1 ∷ rest → SpellsFront m Fnc1 es
fnc1_fits m es rest is =
    record { bits = _; spelled = element.Fnc1 ∷ []; rest = rest; next = m; entry = entry_of (fnc1 (flag_in m 0 (has_flag m))); splits = is }

pub eci_fits : (m : Mode) (number count : ℕ) (es rest : List Element) → es ≡ element.Eci number ∷ rest → 1 ≤ count → count ≤ 6 → number < 10 ^ count
    → SpellsFront m (Eci number count) es
eci_fits m number count es rest is low high few = record {
  bits = _;
  spelled = element.Eci number ∷ [];
  rest = rest;
  next = m;
  entry = entry_of (eci (flag_in m count (has_flag m)) low high few);
  splits = is;
}

pub short_fits : (m : Mode) (count : ℕ) (es : List Element) → All IsElement es → table_symbol m 31 ≡ Binary → 1 ≤ count → count ≤ 31 → count ≤ bytes_ahead es
    → SpellsFront m (Run count false) es
short_fits m count es valid is low high there =
    let part : FirstBytes count es = first_bytes count es valid there in
    record {
      bits = _;
      spelled = bytes_as_elements part.bytes;
      rest = part.rest;
      next = m;
      entry = entry_of (short_run {mode = m} 31 part.bytes is part.size low high part.small);
      splits = part.splits;
    }

pub long_fits : (m : Mode) (count : ℕ) (es : List Element) → All IsElement es → table_symbol m 31 ≡ Binary → 31 ≤ count → count ≤ 2078 → count ≤ bytes_ahead es
    → SpellsFront m (Run count true) es
long_fits m count es valid is low high there =
    let part : FirstBytes count es = first_bytes count es valid there in
    record {
      bits = _;
      spelled = bytes_as_elements part.bytes;
      rest = part.rest;
      next = m;
      entry = entry_of (long_run {mode = m} 31 part.bytes is part.size low high part.small);
      splits = part.splits;
    }

-- A run that spells the front has as many bytes there.
pub run_there : (m : Mode) (count : ℕ) (long : Bool) (es : List Element) → SpellsFront m (Run count long) es → count ≤ bytes_ahead es
run_there m count long es fits =
    let bytes : List ℕ = fits.entry.spells.0 in
    let size = fits.entry.spells.2 in
    let splits : es ≡ bytes_as_elements bytes ++ fits.rest = fits.splits ∙ ap (λ (xs : List Element). xs ++ fits.rest) fits.entry.spells.1 in
    omega (arith, bytes_ahead-bytes bytes fits.rest, ap bytes_ahead splits, size)

flag_front : (m : Mode) (es : List Element) → SpellsFront m Fnc1 es ⊎ (SpellsFront m Fnc1 es → ⊥)
flag_front m (element.Fnc1 ∷ es) = inl (fnc1_fits m (element.Fnc1 ∷ es) es refl)
flag_front m [] = inr (λ fits. let e = fits.splits ∙ ap (λ (xs : List Element). xs ++ fits.rest) fits.entry.spells in absurd (cc))
flag_front m (element.Byte byte ∷ es) = inr (λ fits. let e = fits.splits ∙ ap (λ (xs : List Element). xs ++ fits.rest) fits.entry.spells in absurd (cc))
flag_front m (element.Eci number ∷ es) = inr (λ fits. let e = fits.splits ∙ ap (λ (xs : List Element). xs ++ fits.rest) fits.entry.spells in absurd (cc))

eci_front : (m : Mode) (number count : ℕ) (es : List Element) → SpellsFront m (Eci number count) es ⊎ (SpellsFront m (Eci number count) es → ⊥)
eci_front m number count (element.Eci other ∷ es) =
    elim (cases_eq other number) [
      | inr apart ↦ inr (λ fits. let e = fits.splits ∙ ap (λ (xs : List Element). xs ++ fits.rest) fits.entry.spells in apart (cc))
      | inl same ↦ elim (cases_lt count 1) [
        | inl none ↦ inr (λ fits. absurd (omega (arith, fits.entry.has.1)))
        | inr low ↦ elim (cases_lt 6 count) [
          | inl many ↦ inr (λ fits. absurd (omega (arith, fits.entry.has.2)))
          | inr high ↦ elim (cases_lt number (10 ^ count)) [
            | inl few ↦ inl (eci_fits m number count (element.Eci other ∷ es) es (ap (λ (n : ℕ). element.Eci n ∷ es) same) low high few)
            | inr large ↦ inr (λ fits. absurd (omega (arith, fits.entry.has.3)))
          ]
        ]
      ]
    ]
eci_front m number count [] = inr (λ fits. let e = fits.splits ∙ ap (λ (xs : List Element). xs ++ fits.rest) fits.entry.spells in absurd (cc))
eci_front m number count (element.Byte byte ∷ es) = inr (λ fits. let e = fits.splits ∙ ap (λ (xs : List Element). xs ++ fits.rest) fits.entry.spells in absurd (cc))
eci_front m number count (element.Fnc1 ∷ es) = inr (λ fits. let e = fits.splits ∙ ap (λ (xs : List Element). xs ++ fits.rest) fits.entry.spells in absurd (cc))

run_front : (m : Mode) (count : ℕ) (long : Bool) (es : List Element) → All IsElement es → SpellsFront m (Run count long) es ⊎ (SpellsFront m (Run count long) es → ⊥)
run_front m count true es valid =
    elim (is_binary (table_symbol m 31)) [
      | inr not ↦ inr (λ fits. not fits.entry.has.0)
      | inl is ↦ elim (cases_lt count 31) [
        | inl few ↦ inr (λ fits. absurd (omega (arith, fits.entry.has.1)))
        | inr low ↦ elim (cases_lt 2078 count) [
          | inl many ↦ inr (λ fits. absurd (omega (arith, fits.entry.has.2)))
          | inr high ↦ elim (cases_lt (bytes_ahead es) count) [
            | inl short ↦ inr (λ fits. absurd (omega (arith, run_there m count true es fits)))
            | inr there ↦ inl (long_fits m count es valid is low high there)
          ]
        ]
      ]
    ]
run_front m count false es valid =
    elim (is_binary (table_symbol m 31)) [
      | inr not ↦ inr (λ fits. not fits.entry.has.0)
      | inl is ↦ elim (cases_lt count 1) [
        | inl none ↦ inr (λ fits. absurd (omega (arith, fits.entry.has.1)))
        | inr low ↦ elim (cases_lt 31 count) [
          | inl many ↦ inr (λ fits. absurd (omega (arith, fits.entry.has.2)))
          | inr high ↦ elim (cases_lt (bytes_ahead es) count) [
            | inl short ↦ inr (λ fits. absurd (omega (arith, run_there m count false es fits)))
            | inr there ↦ inl (short_fits m count es valid is low high there)
          ]
        ]
      ]
    ]

pub code_front : (m : Mode) (code : Code) (es : List Element) → All IsElement es → SpellsFront m code es ⊎ (SpellsFront m code es → ⊥)
code_front m (Latch to) es valid =
    elim (is_latch (table_symbol m (latch_number m to)) to) [ inl is ↦ inl (latch_fits m to es is) | inr not ↦ inr (λ fits. not fits.entry.has) ]
code_front m (Plain number) es valid =
    elim (data_front (table_symbol m number) es) [
      | inl front ↦ inl (plain_fits m number es front)
      | inr not ↦ inr (λ fits. not (record { spelled = fits.spelled; rest = fits.rest; is = fits.entry.spells; splits = fits.splits }))
    ]
code_front m (Shift to number) es valid =
    elim (is_shift (table_symbol m (shift_number m to)) to) [
      | inr not ↦ inr (λ fits. not fits.entry.has)
      | inl is ↦ elim (data_front (table_symbol to number) es) [
        | inl front ↦ inl (shift_fits m to number es is front)
        | inr not ↦ inr (λ fits. not (record { spelled = fits.spelled; rest = fits.rest; is = fits.entry.spells; splits = fits.splits }))
      ]
    ]
code_front m Fnc1 es valid = flag_front m es
code_front m (Eci number count) es valid = eci_front m number count es
code_front m (Run count long) es valid = run_front m count long es valid
