-- No entry's bits begin another entry's bits in the same mode: bits that begin with an entry determine the entry.
use Rattle.std.proofs.Common.{◌≡◌, ℕ, zero, suc, ◌+◌, ◌-◌, ◌*◌, ◌<◌, ◌≤◌, Bool, false, true, List, [], ◌∷◌, ◌++◌, length, take, drop, refl, sym, ap, subst, ◌∙◌, arith}
use Rattle.std.specs.Prelude.{Some, All}
use Rattle.std.proofs.lemmas.List.{append_assoc, append_cancel_left, length-append, take_at, drop_at}
use Rattle.std.proofs.lemmas.List.Elements.{All-head, All-tail}
use Rattle.bar_base.specs.Bits.{to_bits, number_after}
use Rattle.bar_base.specs.declared.element.Element.{Element}
use Rattle.bar_base.specs.declared.element.Element.TheVariants as element
use Rattle.aztec_modes.specs.declared.mode.Mode.{Mode}
use Rattle.aztec_modes.specs.declared.code.Code.{Code}
use Rattle.aztec_modes.specs.declared.table.Symbol.{Symbol}
use Rattle.aztec_modes.specs.declared.table.Symbol.TheVariants.{Absent, One, Two, LatchTo, ShiftTo, Binary, Flag}
use Rattle.aztec_modes.specs.Codes.{table_symbol, number_bits, data_spelled}
use Rattle.aztec_modes.specs.Entry.{bytes_as_elements, Entry, code_length, code_next}
use Rattle.aztec_modes.specs.Ahead.{code_ahead, bytes_in, data_elements, spelled_ahead}
use Rattle.aztec_modes.proofs.TableFacts.{binary_at}
use Rattle.aztec_modes.proofs.Forms.{byte_bits, Form, latch, plain, shift, fnc1, eci, short_run, long_run, form_of}
use Rattle.aztec_modes.proofs.EntryLaws.{entry_len, length-number_bits, length-byte_bits}
use Rattle.bar_base.proofs.NumberBits.{length-to_bits}
use Rattle.aztec_modes.proofs.Values.{value, value-to_bits}
use Rattle.aztec_modes.proofs.AheadLaws.{entry_ahead}

bytes_in-at : (bytes : List ℕ) (rest : List Bool) → All (λ byte. byte < 256) bytes → bytes_in (length bytes) (byte_bits bytes ++ rest) ≡ bytes
unfolding bytes_in byte_bits value
bytes_in-at [] rest small = refl
bytes_in-at (byte ∷ bytes) rest small =
    let here : (to_bits 8 byte ++ byte_bits bytes) ++ rest ≡ to_bits 8 byte ++ (byte_bits bytes ++ rest) = append_assoc (to_bits 8 byte) (byte_bits bytes) rest in
    ap (bytes_in (suc (length bytes))) here
    ∙ ap (λ (xs : List Bool). number_after 0 xs ∷ bytes_in (length bytes) (drop 8 (to_bits 8 byte ++ (byte_bits bytes ++ rest))))
    (take_at (to_bits 8 byte) (byte_bits bytes ++ rest) 8 (length-to_bits 8 byte))
    ∙ ap (λ (n : ℕ). n ∷ bytes_in (length bytes) (drop 8 (to_bits 8 byte ++ (byte_bits bytes ++ rest)))) (value-to_bits 8 byte (All-head (λ b. b < 256) byte bytes small))
    ∙ ap (λ (xs : List Bool). byte ∷ bytes_in (length bytes) xs) (drop_at (to_bits 8 byte) (byte_bits bytes ++ rest) 8 (length-to_bits 8 byte))
    ∙ ap (λ (xs : List ℕ). byte ∷ xs) (bytes_in-at bytes rest (All-tail (λ b. b < 256) byte bytes small))

data_elements-is : (s : Symbol) (spelled : List Element) → data_spelled s ≡ Some spelled → data_elements s ≡ spelled
unfolding data_spelled data_elements
data_elements-is (One a) spelled is = cc
data_elements-is (Two a b) spelled is = cc
data_elements-is Absent spelled is = absurd (cc)
data_elements-is (LatchTo to) spelled is = absurd (cc)
data_elements-is (ShiftTo to) spelled is = absurd (cc)
data_elements-is Binary spelled is = absurd (cc)
data_elements-is Flag spelled is = absurd (cc)

run_spelled : (head : List Bool) (rest : List Bool) (bytes : List ℕ) (size count : ℕ) → length head ≡ size → length bytes ≡ count → All (λ byte. byte < 256) bytes
    → bytes_as_elements (bytes_in count (drop size (head ++ (byte_bits bytes ++ rest)))) ≡ bytes_as_elements bytes
run_spelled head rest bytes size count head_is bytes_are small =
    ap (λ (xs : List Bool). bytes_as_elements (bytes_in count xs)) (drop_at head (byte_bits bytes ++ rest) size head_is)
    ∙ ap (λ (n : ℕ). bytes_as_elements (bytes_in n (byte_bits bytes ++ rest))) (sym bytes_are)
    ∙ ap bytes_as_elements (bytes_in-at bytes rest small)

-- What an entry spells is read from its bits.
spelled_there : {mode : Mode} {code : Code} {bits : List Bool} {spelled : List Element} {next : Mode} (rest : List Bool)
    → Form mode code bits spelled next → spelled_ahead mode code (bits ++ rest) ≡ spelled
unfolding spelled_ahead
spelled_there rest (latch number is) = refl
spelled_there {mode} {spelled = spelled} rest (plain {number = number} is) = data_elements-is (table_symbol mode number) spelled is
spelled_there {spelled = spelled} rest (shift {to = to} number {second = second} is data_is) = data_elements-is (table_symbol to second) spelled data_is
spelled_there rest (fnc1 flag) = refl
spelled_there rest (eci flag low high fits) = refl
spelled_there {mode} rest (short_run number {count = count} bytes is size low high small) =
    let head : List Bool = number_bits mode number ++ to_bits 5 count in
    ap (λ (xs : List Bool). bytes_as_elements (bytes_in count (drop 10 (xs ++ rest)))) (sym (append_assoc (number_bits mode number) (to_bits 5 count) (byte_bits bytes)))
    ∙ ap (λ (xs : List Bool). bytes_as_elements (bytes_in count (drop 10 xs))) (append_assoc head (byte_bits bytes) rest)
    ∙ run_spelled head rest bytes 10 count
    (omega (arith, length-append (number_bits mode number) (to_bits 5 count), length-number_bits mode number, (binary_at mode number is).0, length-to_bits 5 count)) size small
spelled_there {mode} rest (long_run number {count = count} bytes is size low high small) =
    let head : List Bool = number_bits mode number ++ (to_bits 5 0 ++ to_bits 11 (count - 31)) in
    ap (λ (xs : List Bool). bytes_as_elements (bytes_in count (drop 21 (xs ++ rest))))
    (ap (λ (xs : List Bool). number_bits mode number ++ xs) (sym (append_assoc (to_bits 5 0) (to_bits 11 (count - 31)) (byte_bits bytes)))
    ∙ sym (append_assoc (number_bits mode number) (to_bits 5 0 ++ to_bits 11 (count - 31)) (byte_bits bytes)))
    ∙ ap (λ (xs : List Bool). bytes_as_elements (bytes_in count (drop 21 xs))) (append_assoc head (byte_bits bytes) rest)
    ∙ run_spelled head rest bytes 21 count
    (omega (
      arith,
      length-append (number_bits mode number) (to_bits 5 0 ++ to_bits 11 (count - 31)),
      length-append (to_bits 5 0) (to_bits 11 (count - 31)),
      length-number_bits mode number,
      (binary_at mode number is).0,
      length-to_bits 5 0,
      length-to_bits 11 (count - 31),
    )) size small

-- Bits that begin with two entries of a mode begin with one.
pub one_reading : {mode : Mode} {code code' : Code} {bits bits' : List Bool} {spelled spelled' : List Element} {next next' : Mode} (rest rest' : List Bool)
    → Entry mode code bits spelled next → Entry mode code' bits' spelled' next' → bits ++ rest ≡ bits' ++ rest'
    → (code ≡ code') × (bits ≡ bits') × (spelled ≡ spelled') × (next ≡ next') × (rest ≡ rest')
one_reading {mode} {code} {code'} {bits} {bits'} {spelled} {spelled'} {next} {next'} rest rest' former latter alike =
    let both : Some code ≡ Some code' = sym (entry_ahead rest former) ∙ ap (code_ahead mode) alike ∙ entry_ahead rest' latter in
    let codes : code ≡ code' = cc in
    let size : length bits ≡ code_length mode code = entry_len former in
    let size' : length bits' ≡ code_length mode code = entry_len latter ∙ ap (code_length mode) (sym codes) in
    let fronts : bits ≡ bits' =
    sym (take_at bits rest (code_length mode code) size) ∙ ap (take (code_length mode code)) alike ∙ take_at bits' rest' (code_length mode code) size' in
    let spells : spelled ≡ spelled' =
    sym (spelled_there rest (form_of former)) ∙ ap (spelled_ahead mode code) alike ∙ ap (λ (c : Code). spelled_ahead mode c (bits' ++ rest')) codes
    ∙ spelled_there rest' (form_of latter) in (
      codes,
      fronts,
      spells,
      former.leads ∙ ap (code_next mode) codes ∙ sym latter.leads,
      append_cancel_left bits rest rest' (alike ∙ ap (λ (xs : List Bool). xs ++ rest') (sym fronts)),
    )
