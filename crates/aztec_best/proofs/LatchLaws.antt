-- Latches between modes: sequences with as many bits as the table says, and that a latch leads no nearer than the table allows.
use Rattle.std.proofs.Common.{inl, inr, ◌≡◌, ℕ, ◌+◌, ◌≤◌, Bool, true, ◌&&◌, List, [], ◌∷◌, ◌++◌, length, refl, sym, subst, arith, append_assoc, nat_le}
use Rattle.std.proofs.lemmas.List.{length-append}
use Rattle.std.proofs.lemmas.Bool.{agree_below, agree_below_at, cases_lt, and_parts, leb-true}
use Rattle.aztec_modes.proofs.TableFacts.{table_symbol-past, width_below}
use Rattle.bar_base.specs.declared.element.Element.{Element}
use Rattle.aztec_modes.specs.declared.mode.Mode.{Mode}
use Rattle.aztec_modes.specs.declared.mode.Mode.TheVariants.{Upper, Lower, Mixed, Punct, Digit}
use Rattle.aztec_modes.specs.declared.code.Code.{Code}
use Rattle.aztec_modes.specs.declared.code.Code.TheVariants.{Latch}
use Rattle.aztec_modes.specs.declared.table.Symbol.{Symbol}
use Rattle.aztec_modes.specs.declared.table.Symbol.TheVariants.{Absent, One, Two, LatchTo, ShiftTo, Binary, Flag}
use Rattle.aztec_modes.specs.Codes.{table_symbol, code_table, mode_width, number_bits}
use Rattle.aztec_modes.proofs.Forms.{latch, entry_of}
use Rattle.aztec_modes.specs.Spelling.{Spells, onward}
use Rattle.aztec_modes.proofs.EntryLaws.{length-number_bits}
use Rattle.aztec_best.specs.Latches.{latch_bits}

-- Latches that lead from a mode to another: put in front of a spelling from there, they make one from here.
pub record Leads (mode to : Mode) (count : ℕ) : Type 0 where
  pub codes : List Code
  pub bits : List Bool
  pub counted : length bits ≡ count
  pub spells : (more : List Code) (rest : List Bool) (elements : List Element) → Spells to more rest elements → Spells mode (codes ++ more) (bits ++ rest) elements

stays : (mode : Mode) → Leads mode mode 0
stays mode = record { codes = []; bits = []; counted = refl; spells = λ more rest elements s. s }

-- one latch in front of latches
after_latch : {mode next to : Mode} (number : ℕ) {count : ℕ} → table_symbol mode number ≡ LatchTo next → Leads next to count → Leads mode to (mode_width mode + count)
after_latch {mode = mode} {next = next} {to = to} number {count = count} is leads = record {
  codes = Latch next ∷ leads.codes;
  bits = number_bits mode number ++ leads.bits;
  counted = omega (arith, length-append (number_bits mode number) leads.bits, length-number_bits mode number, leads.counted);
  spells = λ more rest elements s.
      subst (λ (b : List Bool). Spells mode (Latch next ∷ (leads.codes ++ more)) b elements) (sym (append_assoc (number_bits mode number) leads.bits rest))
      (onward (entry_of (latch number is)) (leads.spells more rest elements s));
}

pub leads : (mode to : Mode) → Leads mode to (latch_bits mode to)
unfolding latch_bits table_symbol code_table mode_width
leads Upper Upper = stays Upper
leads Upper Lower = after_latch 28 refl (stays Lower)
leads Upper Mixed = after_latch 29 refl (stays Mixed)
leads Upper Punct = after_latch 29 refl (after_latch 30 refl (stays Punct))
leads Upper Digit = after_latch 30 refl (stays Digit)
leads Lower Upper = after_latch 30 refl (after_latch 14 refl (stays Upper))
leads Lower Lower = stays Lower
leads Lower Mixed = after_latch 29 refl (stays Mixed)
leads Lower Punct = after_latch 29 refl (after_latch 30 refl (stays Punct))
leads Lower Digit = after_latch 30 refl (stays Digit)
leads Mixed Upper = after_latch 29 refl (stays Upper)
leads Mixed Lower = after_latch 28 refl (stays Lower)
leads Mixed Mixed = stays Mixed
leads Mixed Punct = after_latch 30 refl (stays Punct)
leads Mixed Digit = after_latch 29 refl (after_latch 30 refl (stays Digit))
leads Punct Upper = after_latch 31 refl (stays Upper)
leads Punct Lower = after_latch 31 refl (after_latch 28 refl (stays Lower))
leads Punct Mixed = after_latch 31 refl (after_latch 29 refl (stays Mixed))
leads Punct Punct = stays Punct
leads Punct Digit = after_latch 31 refl (after_latch 30 refl (stays Digit))
leads Digit Upper = after_latch 14 refl (stays Upper)
leads Digit Lower = after_latch 14 refl (after_latch 28 refl (stays Lower))
leads Digit Mixed = after_latch 14 refl (after_latch 29 refl (stays Mixed))
leads Digit Punct = after_latch 14 refl (after_latch 29 refl (after_latch 30 refl (stays Punct)))
leads Digit Digit = stays Digit

pub latch_bits-same : (mode : Mode) → latch_bits mode mode ≡ 0
unfolding latch_bits
latch_bits-same Upper = refl
latch_bits-same Lower = refl
latch_bits-same Mixed = refl
latch_bits-same Punct = refl
latch_bits-same Digit = refl

pub latch_bits-upper : (mode : Mode) → latch_bits mode Upper ≤ 9
unfolding latch_bits
latch_bits-upper Upper = omega arith
latch_bits-upper Lower = omega arith
latch_bits-upper Mixed = omega arith
latch_bits-upper Punct = omega arith
latch_bits-upper Digit = omega arith

-- whether a latch from a mode, if the symbol is one, leads no nearer to any mode than the table says
no_nearer_to : (mode next to : Mode) → Bool
no_nearer_to mode next to = nat_le (latch_bits mode to) (mode_width mode + latch_bits next to)

no_nearer : Mode → Symbol → Bool
no_nearer mode Absent = true
no_nearer mode (One byte) = true
no_nearer mode (Two first second) = true
no_nearer mode (LatchTo next) =
    no_nearer_to mode next Upper && no_nearer_to mode next Lower && no_nearer_to mode next Mixed && no_nearer_to mode next Punct && no_nearer_to mode next Digit
no_nearer mode (ShiftTo to) = true
no_nearer mode Binary = true
no_nearer mode Flag = true

no_nearer_within : (mode : Mode) → agree_below (λ k. no_nearer mode (table_symbol mode k)) (λ k. true) 32 ≡ true
unfolding no_nearer no_nearer_to latch_bits mode_width table_symbol code_table
no_nearer_within Upper = refl
no_nearer_within Lower = refl
no_nearer_within Mixed = refl
no_nearer_within Punct = refl
no_nearer_within Digit = refl

no_nearer_at : (mode : Mode) (k : ℕ) → no_nearer mode (table_symbol mode k) ≡ true
unfolding no_nearer
no_nearer_at mode k =
    elim (cases_lt k 32) [
      | inl below ↦ agree_below_at (λ k. no_nearer mode (table_symbol mode k)) (λ k. true) 32 k (no_nearer_within mode) below
      | inr past ↦ subst (λ (s : Symbol). no_nearer mode s ≡ true) (sym (table_symbol-past mode k (omega (arith, width_below mode)))) refl
    ]

-- after one latch, the rest of the way is no shorter than the table allows
pub latch_step : (mode next to : Mode) (k : ℕ) → table_symbol mode k ≡ LatchTo next → latch_bits mode to ≤ mode_width mode + latch_bits next to
unfolding no_nearer no_nearer_to
latch_step mode next to k is =
    let passes : no_nearer mode (LatchTo next) ≡ true = subst (λ (s : Symbol). no_nearer mode s ≡ true) is (no_nearer_at mode k) in
    let (four, digit) = and_parts _ _ passes in
    let (three, punct) = and_parts _ _ four in
    let (two, mixed) = and_parts _ _ three in
    let (upper, lower) = and_parts _ _ two in
    elim to as (λ x. latch_bits mode x ≤ mode_width mode + latch_bits next x) [
      | Upper ↦ leb-true (latch_bits mode Upper) (mode_width mode + latch_bits next Upper) upper
      | Lower ↦ leb-true (latch_bits mode Lower) (mode_width mode + latch_bits next Lower) lower
      | Mixed ↦ leb-true (latch_bits mode Mixed) (mode_width mode + latch_bits next Mixed) mixed
      | Punct ↦ leb-true (latch_bits mode Punct) (mode_width mode + latch_bits next Punct) punct
      | Digit ↦ leb-true (latch_bits mode Digit) (mode_width mode + latch_bits next Digit) digit
    ]
