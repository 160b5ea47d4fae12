-- Paths put together code by code, from their ends.
use Rattle.std.proofs.Common.{◌≡◌, ℕ, ◌^◌, ◌<◌, ◌≤◌, Bool, false, List, [], ◌∷◌, ◌++◌, length, refl, sym, subst}
use Rattle.std.specs.Prelude.{Some, All}
use Rattle.bar_base.specs.Bits.{to_bits}
use Rattle.bar_base.specs.declared.element.Element.{Element}
use Rattle.bar_base.specs.declared.element.Element.TheVariants as element
use Rattle.aztec_modes.specs.declared.mode.Mode.{Mode}
use Rattle.aztec_modes.specs.declared.mode.Mode.TheVariants.{Upper}
use Rattle.aztec_modes.specs.declared.code.Code.{Code}
use Rattle.aztec_modes.specs.declared.code.Code.TheVariants.{Latch, Plain, Shift, Fnc1, Eci, Run}
use Rattle.aztec_modes.specs.declared.table.Symbol.TheVariants.{One, Two, LatchTo, ShiftTo, Binary}
use Rattle.aztec_modes.specs.Codes.{table_symbol, number_bits, data_spelled}
use Rattle.aztec_modes.specs.Entry.{digit_bits, bytes_as_elements}
use Rattle.aztec_modes.proofs.Forms.{FlagBits, byte_bits, latch, plain, shift, fnc1, eci, short_run, entry_of}
use Rattle.aztec_modes.specs.Spelling.{Spells, onward, IsPathOf}

one_data : (mode : Mode) (number byte : ℕ) → table_symbol mode number ≡ One byte → data_spelled (table_symbol mode number) ≡ Some (element.Byte byte ∷ [])
unfolding data_spelled
one_data mode number byte is = subst (λ s. data_spelled s ≡ Some (element.Byte byte ∷ [])) (sym is) refl

two_data : (mode : Mode) (number a b : ℕ) → table_symbol mode number ≡ Two a b
    → data_spelled (table_symbol mode number) ≡ Some (element.Byte a ∷ element.Byte b ∷ [])
unfolding data_spelled
two_data mode number a b is = subst (λ s. data_spelled s ≡ Some (element.Byte a ∷ element.Byte b ∷ [])) (sym is) refl

pub by_byte : (mode : Mode) (number byte : ℕ) {codes : List Code} {rest : List Bool} {elements : List Element} → table_symbol mode number ≡ One byte
    → Spells mode codes rest elements → Spells mode (Plain number ∷ codes) (number_bits mode number ++ rest) (element.Byte byte ∷ elements)
by_byte mode number byte is after = onward (entry_of (plain (one_data mode number byte is))) after

pub by_pair : (mode : Mode) (number a b : ℕ) {codes : List Code} {rest : List Bool} {elements : List Element} → table_symbol mode number ≡ Two a b
    → Spells mode codes rest elements → Spells mode (Plain number ∷ codes) (number_bits mode number ++ rest) (element.Byte a ∷ element.Byte b ∷ elements)
by_pair mode number a b is after = onward (entry_of (plain (two_data mode number a b is))) after

pub by_latch : (mode to : Mode) (number : ℕ) {codes : List Code} {rest : List Bool} {elements : List Element} → table_symbol mode number ≡ LatchTo to
    → Spells to codes rest elements → Spells mode (Latch to ∷ codes) (number_bits mode number ++ rest) elements
by_latch mode to number is after = onward (entry_of (latch number is)) after

pub by_shift : (mode to : Mode) (number second byte : ℕ) {codes : List Code} {rest : List Bool} {elements : List Element}
    → table_symbol mode number ≡ ShiftTo to → table_symbol to second ≡ One byte → Spells mode codes rest elements
    → Spells mode (Shift to second ∷ codes) ((number_bits mode number ++ number_bits to second) ++ rest) (element.Byte byte ∷ elements)
by_shift mode to number second byte is data_is after = onward (entry_of (shift number is (one_data to second byte data_is))) after

pub by_fnc1 : (mode : Mode) {flag : List Bool} {codes : List Code} {rest : List Bool} {elements : List Element} → FlagBits mode 0 flag
    → Spells mode codes rest elements → Spells mode (Fnc1 ∷ codes) (flag ++ rest) (element.Fnc1 ∷ elements)
by_fnc1 mode flag after = onward (entry_of (fnc1 flag)) after

pub by_eci : (mode : Mode) (number count : ℕ) {flag : List Bool} {codes : List Code} {rest : List Bool} {elements : List Element} → FlagBits mode count flag
    → 1 ≤ count → count ≤ 6 → number < 10 ^ count → Spells mode codes rest elements
    → Spells mode (Eci number count ∷ codes) ((flag ++ digit_bits count number) ++ rest) (element.Eci number ∷ elements)
by_eci mode number count flag low high fits after = onward (entry_of (eci flag low high fits)) after

pub by_short_run : (mode : Mode) (number count : ℕ) (bytes : List ℕ) {codes : List Code} {rest : List Bool} {elements : List Element}
    → table_symbol mode number ≡ Binary → length bytes ≡ count → 1 ≤ count → count ≤ 31 → All (λ byte. byte < 256) bytes → Spells mode codes rest elements
    → Spells mode (Run count false ∷ codes) ((number_bits mode number ++ (to_bits 5 count ++ byte_bits bytes)) ++ rest) (bytes_as_elements bytes ++ elements)
by_short_run mode number count bytes is size low high small after = onward (entry_of (short_run number bytes is size low high small)) after

-- A path under equal names.
pub path_moved : {codes codes' : List Code} {elements elements' : List Element} → codes' ≡ codes → elements' ≡ elements
    → IsPathOf Upper codes elements → IsPathOf Upper codes' elements'
path_moved {codes} {codes'} {elements} {elements'} same_codes same_elements path =
    subst (λ (cs : List Code). IsPathOf Upper cs elements') (sym same_codes)
    (subst (λ (es : List Element). IsPathOf Upper codes es) (sym same_elements) path)
