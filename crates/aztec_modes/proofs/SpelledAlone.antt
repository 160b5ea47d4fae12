-- Each element can be spelled alone by one code of Upper.
use Rattle.std.proofs.Common.{◌≡◌, ℕ, ◌<◌, ◌≤◌, Bool, false, List, [], ◌∷◌, ◌++◌, length, refl, sym, ◌∙◌, arith}
use Rattle.std.proofs.lemmas.List.{append-nil}
use Rattle.std.proofs.lemmas.List.Elements.{All-nil, All-cons}
use Rattle.bar_base.specs.Bits.{to_bits}
use Rattle.bar_base.specs.declared.element.Element.{Element}
use Rattle.bar_base.specs.declared.element.Element.TheVariants as element
use Rattle.aztec_modes.specs.declared.mode.Mode.{Mode}
use Rattle.aztec_modes.specs.declared.mode.Mode.TheVariants.{Upper, Punct}
use Rattle.aztec_modes.specs.declared.code.Code.{Code}
use Rattle.aztec_modes.specs.declared.code.Code.TheVariants.{Fnc1, Eci, Run}
use Rattle.aztec_modes.specs.Codes.{table_symbol, code_table, mode_width, number_bits}
use Rattle.aztec_modes.specs.Entry.{Entry, code_length, flag_width, digit_bits, bytes_as_elements}
use Rattle.aztec_modes.proofs.Forms.{FlagBits, shifted, byte_bits, fnc1, eci, short_run, entry_of}
use Rattle.aztec_modes.proofs.EntryLaws.{entry_len}

-- An element that one code spells alone from a mode that stays, in at most so many bits.
abbrev pub SpellsAlone : Mode → Code → Element → (most : ℕ) → Type 0
SpellsAlone mode code spelled most = (bits : List Bool) × Entry mode code bits (spelled ∷ []) mode × (length bits ≤ most)

upper_flag : (n : ℕ) → FlagBits Upper n (number_bits Upper 0 ++ (number_bits Punct 0 ++ to_bits 3 n))
unfolding table_symbol code_table
upper_flag n = shifted 0 0 refl refl

-- A byte, FNC1 and an ECI by one code of Upper each.
pub byte_alone : (byte : ℕ) → byte < 256 → SpellsAlone Upper (Run 1 false) (element.Byte byte) 37
unfolding table_symbol code_table bytes_as_elements code_length
byte_alone byte small =
    let small_bytes = All-cons (λ (b : ℕ). b < 256) byte [] small (All-nil (λ b. b < 256)) in
    let entry : Entry Upper (Run 1 false) (number_bits Upper 31 ++ (to_bits 5 1 ++ byte_bits (byte ∷ []))) (element.Byte byte ∷ []) Upper =
    entry_of (short_run 31 (byte ∷ []) refl refl (omega arith) (omega arith) small_bytes) in
    (number_bits Upper 31 ++ (to_bits 5 1 ++ byte_bits (byte ∷ [])), entry, (let e : length (number_bits Upper 31 ++ (to_bits 5 1 ++ byte_bits (byte ∷ []))) ≡ 18 = entry_len entry in omega arith))

pub fnc1_alone : SpellsAlone Upper Fnc1 element.Fnc1 37
unfolding code_length flag_width mode_width
fnc1_alone =
    let entry : Entry Upper Fnc1 (number_bits Upper 0 ++ (number_bits Punct 0 ++ to_bits 3 0)) (element.Fnc1 ∷ []) Upper = entry_of (fnc1 (upper_flag 0)) in
    (number_bits Upper 0 ++ (number_bits Punct 0 ++ to_bits 3 0), entry, (let e : length (number_bits Upper 0 ++ (number_bits Punct 0 ++ to_bits 3 0)) ≡ 13 = entry_len entry in omega arith))

pub eci_alone : (number : ℕ) → number ≤ 999999 → SpellsAlone Upper (Eci number 6) (element.Eci number) 37
unfolding code_length flag_width mode_width
eci_alone number small =
    let bits : List Bool = (number_bits Upper 0 ++ (number_bits Punct 0 ++ to_bits 3 6)) ++ digit_bits 6 number in
    let entry : Entry Upper (Eci number 6) bits (element.Eci number ∷ []) Upper = entry_of (eci (upper_flag 6) (omega arith) (omega arith) (omega arith)) in
    (bits, entry, (let e : length bits ≡ 37 = entry_len entry in omega arith))
