-- The seven forms of an entry. Proofs go over the forms; `form_of` and `entry_of` lead from an entry to its form and back.
use Rattle.std.proofs.Common.{◌≡◌, ℕ, ◌-◌, ◌^◌, ◌<◌, ◌≤◌, Bool, true, false, List, [], ◌∷◌, ◌++◌, length, refl, sym, ap, subst, ◌∙◌}
use Rattle.std.specs.Prelude.{Some, All}
use Rattle.std.proofs.lemmas.List.{append_assoc}
use Rattle.bar_base.specs.Bits.{to_bits}
use Rattle.bar_base.specs.declared.element.Element.{Element}
use Rattle.bar_base.specs.declared.element.Element.TheVariants as element
use Rattle.aztec_modes.specs.declared.mode.Mode.{Mode}
use Rattle.aztec_modes.specs.declared.mode.Mode.TheVariants.{Upper, Lower, Mixed, Punct, Digit}
use Rattle.aztec_modes.specs.declared.code.Code.{Code}
use Rattle.aztec_modes.specs.declared.code.Code.TheVariants.{Latch, Plain, Shift, Fnc1, Eci, Run}
use Rattle.aztec_modes.specs.declared.table.Symbol.TheVariants.{LatchTo, ShiftTo, Binary, Flag}
use Rattle.aztec_modes.specs.Codes.{code_table, table_symbol, number_bits, data_spelled}
use Rattle.aztec_modes.specs.Entry.{HasFlag, latch_number, shift_number, bytes_as_elements, element_byte, element_bits, digit_bits, flag_bits, length_bits, code_bits, code_next, Entry}
use Rattle.aztec_modes.proofs.TableFacts.{flag_at, binary_at, is_punct, shift_outside, shift_to_punct, latch_number-at, shift_number-at}

-- FLG(n) is the code FLG(n) and three bits of n. Where the mode has no such code, a shift to one that has it comes before it.
pub data FlagBits : Mode → ℕ → List Bool → Type 0 where
  direct : {mode : Mode} (flag : ℕ) {n : ℕ} → table_symbol mode flag ≡ Flag → FlagBits mode n (number_bits mode flag ++ to_bits 3 n)
  shifted : {mode to : Mode} (shift flag : ℕ) {n : ℕ} → table_symbol mode shift ≡ ShiftTo to → table_symbol to flag ≡ Flag
      → FlagBits mode n (number_bits mode shift ++ (number_bits to flag ++ to_bits 3 n))

-- Bytes, 8 bits each.
unfoldable pub byte_bits : List ℕ → List Bool
byte_bits [] = []
byte_bits (byte ∷ bytes) = to_bits 8 byte ++ byte_bits bytes

pub data Form : Mode → Code → List Bool → List Element → Mode → Type 0 where
  latch : {mode next : Mode} (number : ℕ) → table_symbol mode number ≡ LatchTo next
      → Form mode (Latch next) (number_bits mode number) [] next
  plain : {mode : Mode} {number : ℕ} {spelled : List Element} → data_spelled (table_symbol mode number) ≡ Some spelled
      → Form mode (Plain number) (number_bits mode number) spelled mode
  shift : {mode to : Mode} (number : ℕ) {second : ℕ} {spelled : List Element} → table_symbol mode number ≡ ShiftTo to
      → data_spelled (table_symbol to second) ≡ Some spelled
      → Form mode (Shift to second) (number_bits mode number ++ number_bits to second) spelled mode
  fnc1 : {mode : Mode} {bits : List Bool} → FlagBits mode 0 bits → Form mode Fnc1 bits (element.Fnc1 ∷ []) mode
  eci : {mode : Mode} {bits : List Bool} {number count : ℕ} → FlagBits mode count bits → 1 ≤ count → count ≤ 6 → number < 10 ^ count
      → Form mode (Eci number count) (bits ++ digit_bits count number) (element.Eci number ∷ []) mode
  short_run : {mode : Mode} (number : ℕ) {count : ℕ} (bytes : List ℕ) → table_symbol mode number ≡ Binary
      → length bytes ≡ count → 1 ≤ count → count ≤ 31 → All (λ byte. byte < 256) bytes
      → Form mode (Run count false) (number_bits mode number ++ (to_bits 5 count ++ byte_bits bytes)) (bytes_as_elements bytes) mode
  long_run : {mode : Mode} (number : ℕ) {count : ℕ} (bytes : List ℕ) → table_symbol mode number ≡ Binary
      → length bytes ≡ count → 31 ≤ count → count ≤ 2078 → All (λ byte. byte < 256) bytes
      → Form mode (Run count true) (number_bits mode number ++ (to_bits 5 0 ++ (to_bits 11 (count - 31) ++ byte_bits bytes))) (bytes_as_elements bytes) mode

pub flag_bits-outside : (mode : Mode) (n : ℕ) → is_punct mode ≡ false → flag_bits mode n ≡ number_bits mode 0 ++ (number_bits Punct 0 ++ to_bits 3 n)
unfolding flag_bits is_punct
flag_bits-outside Upper n is = refl
flag_bits-outside Lower n is = refl
flag_bits-outside Mixed n is = refl
flag_bits-outside Punct n is = absurd (cc)
flag_bits-outside Digit n is = refl

-- FLG(n) has one list of bits in a mode.
pub FlagBits-is : {mode : Mode} {n : ℕ} {bits : List Bool} → FlagBits mode n bits → bits ≡ flag_bits mode n
unfolding flag_bits
FlagBits-is {mode} {n} (direct flag is) =
    let at = flag_at mode flag is in
    ap (λ (k : ℕ). number_bits mode k ++ to_bits 3 n) at.1
    ∙ ap (λ (m : Mode). number_bits m 0 ++ to_bits 3 n) at.0 ∙ sym (ap (λ (m : Mode). flag_bits m n) at.0)
FlagBits-is {mode} {n} (shifted {to = to} number flag is_shift is_flag) =
    let at = flag_at to flag is_flag in
    let first : number ≡ 0 = shift_to_punct mode number (subst (λ (m : Mode). table_symbol mode number ≡ ShiftTo m) at.0 is_shift) in
    ap (λ (k : ℕ). number_bits mode k ++ (number_bits to flag ++ to_bits 3 n)) first
    ∙ ap (λ (k : ℕ). number_bits mode 0 ++ (number_bits to k ++ to_bits 3 n)) at.1
    ∙ ap (λ (m : Mode). number_bits mode 0 ++ (number_bits m 0 ++ to_bits 3 n)) at.0
    ∙ sym (flag_bits-outside mode n (shift_outside mode to number is_shift))

-- FLG(n) can be written in each mode.
pub has_flag : (mode : Mode) → HasFlag mode
unfolding table_symbol code_table
has_flag Upper = (refl, refl)
has_flag Lower = (refl, refl)
has_flag Mixed = (refl, refl)
has_flag Punct = refl
has_flag Digit = (refl, refl)

pub flag_in : (mode : Mode) (n : ℕ) → HasFlag mode → FlagBits mode n (flag_bits mode n)
unfolding flag_bits
flag_in Upper n is = shifted 0 0 is.0 is.1
flag_in Lower n is = shifted 0 0 is.0 is.1
flag_in Mixed n is = shifted 0 0 is.0 is.1
flag_in Punct n is = direct 0 is
flag_in Digit n is = shifted 0 0 is.0 is.1

element_bits-bytes : (bytes : List ℕ) → element_bits (bytes_as_elements bytes) ≡ byte_bits bytes
unfolding element_bits bytes_as_elements byte_bits element_byte
element_bits-bytes [] = refl
element_bits-bytes (byte ∷ bytes) = ap (λ (bits : List Bool). to_bits 8 byte ++ bits) (element_bits-bytes bytes)

-- A form under equal names.
moved : {mode : Mode} {code : Code} {bits bits' : List Bool} {spelled spelled' : List Element} {next next' : Mode}
    → bits ≡ bits' → spelled ≡ spelled' → next ≡ next' → Form mode code bits' spelled' next' → Form mode code bits spelled next
moved {mode} {code} {bits} {bits'} {spelled} {spelled'} {next} {next'} written spells leads form =
    subst (λ (xs : List Bool). Form mode code xs spelled next) (sym written)
    (subst (λ (es : List Element). Form mode code bits' es next) (sym spells)
    (subst (λ (m : Mode). Form mode code bits' spelled' m) (sym leads) form))

form_by : (code : Code) {mode : Mode} {bits : List Bool} {spelled : List Element} {next : Mode} → Entry mode code bits spelled next → Form mode code bits spelled next
unfolding code_bits code_next length_bits
form_by (Latch to) {mode} entry = moved entry.written entry.spells entry.leads (latch (latch_number mode to) entry.has)
form_by (Plain number) entry = moved entry.written refl entry.leads (plain entry.spells)
form_by (Shift to number) {mode} entry = moved entry.written refl entry.leads (shift (shift_number mode to) entry.has entry.spells)
form_by Fnc1 {mode} entry = moved entry.written entry.spells entry.leads (fnc1 (flag_in mode 0 entry.has))
form_by (Eci number count) {mode} entry =
    moved entry.written entry.spells entry.leads (eci (flag_in mode count entry.has.0) entry.has.1 entry.has.2 entry.has.3)
form_by (Run count false) {mode} {bits} {spelled} {next} entry =
    let bytes : List ℕ = entry.spells.0 in
    let same : element_bits spelled ≡ byte_bits bytes = ap element_bits entry.spells.1 ∙ element_bits-bytes bytes in
    moved (entry.written ∙ ap (λ (xs : List Bool). number_bits mode 31 ++ (to_bits 5 count ++ xs)) same) entry.spells.1 entry.leads
    (short_run 31 bytes entry.has.0 entry.spells.2 entry.has.1 entry.has.2 entry.spells.3)
form_by (Run count true) {mode} {bits} {spelled} {next} entry =
    let bytes : List ℕ = entry.spells.0 in
    let same : element_bits spelled ≡ byte_bits bytes = ap element_bits entry.spells.1 ∙ element_bits-bytes bytes in
    moved (entry.written ∙ ap (λ (xs : List Bool). number_bits mode 31 ++ ((to_bits 5 0 ++ to_bits 11 (count - 31)) ++ xs)) same
    ∙ ap (λ (xs : List Bool). number_bits mode 31 ++ xs) (append_assoc (to_bits 5 0) (to_bits 11 (count - 31)) (byte_bits bytes))) entry.spells.1 entry.leads
    (long_run 31 bytes entry.has.0 entry.spells.2 entry.has.1 entry.has.2 entry.spells.3)

-- The form of an entry.
pub form_of : {mode : Mode} {code : Code} {bits : List Bool} {spelled : List Element} {next : Mode} → Entry mode code bits spelled next
    → Form mode code bits spelled next
form_of {code = code} entry = form_by code entry

-- The entry of a form.
pub entry_of : {mode : Mode} {code : Code} {bits : List Bool} {spelled : List Element} {next : Mode} → Form mode code bits spelled next
    → Entry mode code bits spelled next
unfolding code_bits code_next length_bits
entry_of {mode} (latch {next = to} number is) = record {
  has = subst (λ (k : ℕ). table_symbol mode k ≡ LatchTo to) (latch_number-at mode to number is) is;
  spells = refl;
  written = ap (number_bits mode) (latch_number-at mode to number is);
  leads = refl;
}
entry_of (plain is) = record { has = tt; spells = is; written = refl; leads = refl }
entry_of {mode} (shift {to = to} number {second = second} is data_is) = record {
  has = subst (λ (k : ℕ). table_symbol mode k ≡ ShiftTo to) (shift_number-at mode to number is) is;
  spells = data_is;
  written = ap (λ (k : ℕ). number_bits mode k ++ number_bits to second) (shift_number-at mode to number is);
  leads = refl;
}
entry_of {mode} (fnc1 flag) = record { has = has_flag mode; spells = refl; written = FlagBits-is flag; leads = refl }
entry_of {mode} (eci {number = number} {count = count} flag low high few) = record {
  has = (has_flag mode, low, high, few);
  spells = refl;
  written = ap (λ (bits : List Bool). bits ++ digit_bits count number) (FlagBits-is flag);
  leads = refl;
}
entry_of {mode} (short_run number {count = count} bytes is size low high small) = record {
  has = (subst (λ (k : ℕ). table_symbol mode k ≡ Binary) (binary_at mode number is).1 is, low, high);
  spells = (bytes, refl, size, small);
  written = ap (λ (k : ℕ). number_bits mode k ++ (to_bits 5 count ++ byte_bits bytes)) (binary_at mode number is).1
      ∙ ap (λ (bits : List Bool). number_bits mode 31 ++ (to_bits 5 count ++ bits)) (sym (element_bits-bytes bytes));
  leads = refl;
}
entry_of {mode} (long_run number {count = count} bytes is size low high small) = record {
  has = (subst (λ (k : ℕ). table_symbol mode k ≡ Binary) (binary_at mode number is).1 is, low, high);
  spells = (bytes, refl, size, small);
  written = ap (λ (k : ℕ). number_bits mode k ++ (to_bits 5 0 ++ (to_bits 11 (count - 31) ++ byte_bits bytes))) (binary_at mode number is).1
      ∙ ap (λ (bits : List Bool). number_bits mode 31 ++ (to_bits 5 0 ++ (to_bits 11 (count - 31) ++ bits))) (sym (element_bits-bytes bytes))
      ∙ ap (λ (bits : List Bool). number_bits mode 31 ++ bits) (sym (append_assoc (to_bits 5 0) (to_bits 11 (count - 31)) (element_bits (bytes_as_elements bytes))));
  leads = refl;
}
