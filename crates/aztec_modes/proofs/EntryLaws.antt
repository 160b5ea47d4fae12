-- What a code and its mode determine of its entry: how many bits it has and how many elements it spells; with the elements, all of it.
use Rattle.std.proofs.Common.{◌≡◌, ℕ, zero, suc, take, sym, ◌+◌, ◌-◌, ◌*◌, ◌/◌, ◌%◌, Bool, List, [], ◌∷◌, ◌++◌, length, refl, ap, ◌∙◌, arith}
use Rattle.std.specs.Prelude.{◌==◌, Some}
use Rattle.std.proofs.lemmas.List.{length-append, length_push, append_cancel_left, take_at}
use Rattle.bar_base.specs.Bits.{to_bits}
use Rattle.bar_base.proofs.NumberBits.{length-to_bits}
use Rattle.bar_base.specs.declared.element.Element.{Element}
use Rattle.bar_base.specs.declared.element.Element.TheVariants as element
use Rattle.aztec_modes.specs.declared.mode.Mode.{Mode}
use Rattle.aztec_modes.specs.declared.mode.Mode.TheVariants.{Punct, Digit}
use Rattle.aztec_modes.specs.declared.code.Code.{Code}
use Rattle.aztec_modes.specs.declared.table.Symbol.{Symbol}
use Rattle.aztec_modes.specs.declared.table.Symbol.TheVariants.{Absent, One, Two, LatchTo, ShiftTo, Binary, Flag}
use Rattle.aztec_modes.specs.Codes.{table_symbol, mode_width, number_bits, data_spelled}
use Rattle.aztec_modes.specs.Entry.{digit_bits, bytes_as_elements, code_bits, code_next, code_length, code_count, flag_width, data_count, Entry}
use Rattle.aztec_modes.proofs.Forms.{FlagBits, direct, shifted, byte_bits, Form, latch, plain, shift, fnc1, eci, short_run, long_run, form_of}
use Rattle.aztec_modes.proofs.TableFacts.{flag_at, binary_at, shift_outside, flag_width-outside}

pub length-number_bits : (mode : Mode) (number : ℕ) → length (number_bits mode number) ≡ mode_width mode
unfolding number_bits
length-number_bits mode number = length-to_bits (mode_width mode) number

pub length-digit_bits : (count number : ℕ) → length (digit_bits count number) ≡ 4 * count
unfolding digit_bits mode_width
length-digit_bits zero number = refl
length-digit_bits (suc count) number =
    omega (
      arith,
      length-append (digit_bits count (number / 10)) (number_bits Digit (number % 10 + 2)),
      length-digit_bits count (number / 10),
      length-number_bits Digit (number % 10 + 2),
    )

pub length-byte_bits : (bytes : List ℕ) → length (byte_bits bytes) ≡ 8 * length bytes
unfolding byte_bits
length-byte_bits [] = refl
length-byte_bits (byte ∷ bytes) =
    omega (arith, length-append (to_bits 8 byte) (byte_bits bytes), length-to_bits 8 byte, length-byte_bits bytes)

pub length-bytes_as_elements : (bytes : List ℕ) → length (bytes_as_elements bytes) ≡ length bytes
unfolding bytes_as_elements
length-bytes_as_elements [] = refl
length-bytes_as_elements (byte ∷ bytes) = ap suc (length-bytes_as_elements bytes)

pub length-FlagBits : {mode : Mode} {n : ℕ} {bits : List Bool} → FlagBits mode n bits → length bits ≡ flag_width mode
unfolding flag_width mode_width
length-FlagBits {mode} {n} (direct flag is) =
    let at : mode ≡ Punct = (flag_at mode flag is).0 in
    let size : mode_width mode ≡ 5 = ap mode_width at in
    let all : flag_width mode ≡ 8 = ap flag_width at in
    omega (arith, length-append (number_bits mode flag) (to_bits 3 n), length-number_bits mode flag, length-to_bits 3 n)
length-FlagBits {mode} {n} (shifted {to = to} number flag is_shift is_flag) =
    let size : mode_width to ≡ 5 = ap mode_width (flag_at to flag is_flag).0 in
    let all : flag_width mode ≡ mode_width mode + 8 = flag_width-outside mode (shift_outside mode to number is_shift) in
    omega (
      arith,
      length-append (number_bits mode number) (number_bits to flag ++ to_bits 3 n),
      length-append (number_bits to flag) (to_bits 3 n),
      length-number_bits mode number,
      length-number_bits to flag,
      length-to_bits 3 n,
    )

-- An entry has as many bits as its code costs.
form_len : {mode : Mode} {code : Code} {bits : List Bool} {spelled : List Element} {next : Mode}
    → Form mode code bits spelled next → length bits ≡ code_length mode code
unfolding code_length
form_len {mode} (latch number is) = length-number_bits mode number
form_len {mode} (plain {number = number} is) = length-number_bits mode number
form_len {mode} (shift {to = to} number {second = second} is data_is) =
    omega (arith, length-append (number_bits mode number) (number_bits to second), length-number_bits mode number, length-number_bits to second)
form_len (fnc1 flag) = length-FlagBits flag
form_len (eci {bits = bits} {number = number} {count = count} flag low high fits) =
    omega (arith, length-append bits (digit_bits count number), length-FlagBits flag, length-digit_bits count number)
form_len {mode} (short_run number {count = count} bytes is size low high ok) =
    omega (
      arith,
      length-append (number_bits mode number) (to_bits 5 count ++ byte_bits bytes),
      length-append (to_bits 5 count) (byte_bits bytes),
      length-number_bits mode number,
      (binary_at mode number is).0,
      length-to_bits 5 count,
      length-byte_bits bytes,
    )
form_len {mode} (long_run number {count = count} bytes is size low high ok) =
    omega (
      arith,
      length-append (number_bits mode number) (to_bits 5 0 ++ (to_bits 11 (count - 31) ++ byte_bits bytes)),
      length-append (to_bits 5 0) (to_bits 11 (count - 31) ++ byte_bits bytes),
      length-append (to_bits 11 (count - 31)) (byte_bits bytes),
      length-number_bits mode number,
      (binary_at mode number is).0,
      length-to_bits 5 0,
      length-to_bits 11 (count - 31),
      length-byte_bits bytes,
    )

pub entry_len : {mode : Mode} {code : Code} {bits : List Bool} {spelled : List Element} {next : Mode}
    → Entry mode code bits spelled next → length bits ≡ code_length mode code
entry_len entry = form_len (form_of entry)

data_count_from : (s : Symbol) (spelled : List Element) → data_spelled s ≡ Some spelled → length spelled ≡ data_count s
unfolding data_spelled data_count
data_count_from (One a) spelled is = let e : spelled ≡ element.Byte a ∷ [] = cc in ap length e
data_count_from (Two a b) spelled is = let e : spelled ≡ element.Byte a ∷ element.Byte b ∷ [] = cc in ap length e
data_count_from Absent spelled is = absurd (cc)
data_count_from (LatchTo m) spelled is = absurd (cc)
data_count_from (ShiftTo m) spelled is = absurd (cc)
data_count_from Binary spelled is = absurd (cc)
data_count_from Flag spelled is = absurd (cc)

-- An entry spells as many elements as its code counts.
form_spelled : {mode : Mode} {code : Code} {bits : List Bool} {spelled : List Element} {next : Mode}
    → Form mode code bits spelled next → length spelled ≡ code_count mode code
unfolding code_count
form_spelled (latch number is) = refl
form_spelled {mode} {spelled = spelled} (plain {number = number} is) = data_count_from (table_symbol mode number) spelled is
form_spelled {spelled = spelled} (shift {to = to} number {second = second} is data_is) = data_count_from (table_symbol to second) spelled data_is
form_spelled (fnc1 flag) = refl
form_spelled (eci flag low high fits) = refl
form_spelled (short_run number bytes is size low high ok) = length-bytes_as_elements bytes ∙ size
form_spelled (long_run number bytes is size low high ok) = length-bytes_as_elements bytes ∙ size

pub entry_spelled : {mode : Mode} {code : Code} {bits : List Bool} {spelled : List Element} {next : Mode}
    → Entry mode code bits spelled next → length spelled ≡ code_count mode code
entry_spelled entry = form_spelled (form_of entry)

-- Two entries with the same code that begin the same elements are one.
pub entry_same : {mode : Mode} {code : Code} {bits bits' : List Bool} {spelled spelled' : List Element} {next next' : Mode} (rest rest' : List Element)
    → Entry mode code bits spelled next → Entry mode code bits' spelled' next' → spelled ++ rest ≡ spelled' ++ rest'
    → (bits ≡ bits') × (spelled ≡ spelled') × (rest ≡ rest') × (next ≡ next')
entry_same {mode} {code} {spelled = spelled} {spelled' = spelled'} rest rest' former latter same =
    let size : length spelled ≡ code_count mode code = entry_spelled former in
    let size' : length spelled' ≡ code_count mode code = entry_spelled latter in
    let front : spelled ≡ spelled' =
    sym (take_at spelled rest (code_count mode code) size) ∙ ap (take (code_count mode code)) same ∙ take_at spelled' rest' (code_count mode code) size' in (
      former.written ∙ ap (code_bits mode code) front ∙ sym latter.written,
      front,
      append_cancel_left spelled rest rest' (same ∙ ap (λ (xs : List Element). xs ++ rest') (sym front)),
      former.leads ∙ sym latter.leads,
    )
