-- The text of a grid in which `?` stands for an unknown module: as many modules as it has with them light, and one picture.
use Rattle.std.proofs.Common.{◌≡◌, ℕ, ◌+◌, Bool, true, false, List, [], ◌∷◌, length, refl, sym, ap, ◌∙◌}
use Rattle.std.specs.Prelude.{◌==◌, Result, Ok, Err, IfErr, IfOk}
use Rattle.std.proofs.lemmas.List.{length-append}
use Rattle.bar_base.specs.Picture.{Picture}
use Rattle.symbol_reader.specs.GridLines.{IsTextFault}
use Rattle.symbol_reader.specs.Scanning.{byte_modules, modules_in}
use Rattle.symbol_reader.specs.UnknownLines.{IsUnknownOf, light_byte, light_text, lost_byte_modules, lost_modules}
use Rattle.symbol_reader.specs.declared.text_fault.TextFault.{TextFault}
use Rattle.symbol_reader.specs.declared.text_fault.TextFault.TheVariants.{NoMemory}
use Rattle.symbol_reader.specs.declared.unknown.Unknown.{Unknown}
use Rattle.symbol_reader.proofs.PictureTexts.{no_picture, picture_once}

same_byte : (byte : ℕ) → length (lost_byte_modules byte) ≡ length (byte_modules (light_byte byte))
same_byte byte = by_tests (byte == 63) (byte == 48) (byte == 49) refl refl refl
  where
    by_tests : (a b c : Bool) → (byte == 63) ≡ a → (byte == 48) ≡ b → (byte == 49) ≡ c → length (lost_byte_modules byte) ≡ length (byte_modules (light_byte byte))
    by_tests true b c p q r = rw p refl
    by_tests false true c p q r = rw (p, q) refl
    by_tests false false true p q r = rw (p, q, r) refl
    by_tests false false false p q r = rw (p, q, r) refl

pub same_count : (bytes : List ℕ) → length (lost_modules bytes) ≡ length (modules_in (light_text bytes))
same_count [] = refl
same_count (byte ∷ bytes) =
    length-append (lost_byte_modules byte) (lost_modules bytes)
    ∙ ap (λ (n : ℕ). n + length (lost_modules bytes)) (same_byte byte)
    ∙ ap (λ (n : ℕ). length (byte_modules (light_byte byte)) + n) (same_count bytes)
    ∙ sym (length-append (byte_modules (light_byte byte)) (modules_in (light_text bytes)))

-- A text shows one picture, and one of its unknown modules.
pub only_unknown : (bytes : List ℕ) (result : Result Unknown TextFault) → IfOk result (IsUnknownOf bytes)
    → IfOk result (λ unknown. (other : Unknown) → IsUnknownOf bytes other → (other.grid ≡ unknown.grid) × (other.lost ≡ unknown.lost))
only_unknown bytes (Ok unknown) is = λ other is'.
    let same : other.grid ≡ unknown.grid = picture_once (light_text bytes) other.grid unknown.grid is'.picture is.picture in
    (same, is'.lost ∙ ap (λ (p : Picture). record p { modules = lost_modules bytes }) same ∙ sym is.lost)
only_unknown bytes (Err fault) is = is

pub no_unknown : (bytes : List ℕ) (result : Result Unknown TextFault) → IfErr result (IsTextFault (light_text bytes))
    → IfErr result (λ fault. (other : Unknown) → IsUnknownOf bytes other → fault ≡ NoMemory)
no_unknown bytes (Ok unknown) is = is
no_unknown bytes (Err fault) is = λ other shown. no_picture (light_text bytes) (Err fault) is other.grid shown.picture
