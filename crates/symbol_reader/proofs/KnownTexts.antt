-- The text of a grid shows it with no unknown module.
use Rattle.std.proofs.Common.{◌≡◌, List, [], ◌∷◌, ◌++◌, ℕ, zero, suc, Bool, true, false, All, length, refl, sym, ap, subst, ◌∙◌, arith}
use Rattle.std.specs.Prelude.{◌==◌, ◌||◌, if◌then◌else◌}
use Rattle.std.proofs.lemmas.List.Elements.{All-append, All-cons, All-nil}
use Rattle.bar_base.specs.GridText.{grid_text, line_of, lines_from}
use Rattle.bar_base.specs.Picture.{IsMatrixSymbol, Picture, row_count, row_of}
use Rattle.symbol_reader.specs.GridLines.{IsPictureOf}
use Rattle.symbol_reader.specs.Sight.{darkened}
use Rattle.symbol_reader.specs.UnknownLines.{light_text, lost_byte_modules, lost_modules}
use Rattle.symbol_reader.proofs.PictureTexts.{text_shows}
use Rattle.symbol_reader.proofs.Sights.{darkened_none}
use Rattle.symbol_reader.proofs.TextModules.{lines_modules}
use Rattle.symbol_reader.proofs.UnknownTexts.{same_count}

-- no byte is `?`
AreKnown : List ℕ → Type 0
AreKnown [] = Unit {0}
AreKnown (byte ∷ bytes) = ((byte == 63) ≡ false) × AreKnown bytes

known_append : (bytes more : List ℕ) → AreKnown bytes → AreKnown more → AreKnown (bytes ++ more)
unfolding AreKnown
known_append [] more are_known later = later
known_append (byte ∷ bytes) more (is, are_known) later = (is, known_append bytes more are_known later)

row_known : (row : List Bool) → AreKnown (line_of row)
unfolding AreKnown
row_known [] = (refl, tt)
row_known (true ∷ row) = (refl, row_known row)
row_known (false ∷ row) = (refl, row_known row)

lines_known : (picture : Picture) (y count : ℕ) → AreKnown (lines_from picture y count)
unfolding AreKnown lines_from
lines_known picture y zero = tt
lines_known picture y (suc count) = known_append (line_of (row_of picture y)) (lines_from picture (suc y) count) (row_known (row_of picture y)) (lines_known picture (suc y) count)

-- such a text is the same with its unknown modules light
light_same : (bytes : List ℕ) → AreKnown bytes → light_text bytes ≡ bytes
unfolding AreKnown
light_same [] are_known = refl
light_same (byte ∷ bytes) (is, are_known) =
    ap (λ (b : ℕ). b ∷ light_text bytes) (ap (λ (lost : Bool). if lost then 48 else byte) is) ∙ ap (λ (bs : List ℕ). byte ∷ bs) (light_same bytes are_known)

byte_not_gone : (byte : ℕ) → (byte == 63) ≡ false → All (λ gone. gone ≡ false) (lost_byte_modules byte)
byte_not_gone byte is =
    subst (λ (lost : Bool). All (λ gone. gone ≡ false) (if lost then true ∷ [] else if (byte == 48) || (byte == 49) then false ∷ [] else [])) (sym is)
    (elim ((byte == 48) || (byte == 49)) as (λ (b : Bool). All (λ gone. gone ≡ false) (if b then false ∷ [] else [])) [
      | true ↦ All-cons (λ gone. gone ≡ false) false [] refl (All-nil (λ gone. gone ≡ false))
      | false ↦ All-nil (λ gone. gone ≡ false)
    ])

-- none of its modules is unknown
none_lost : (bytes : List ℕ) → AreKnown bytes → All (λ gone. gone ≡ false) (lost_modules bytes)
unfolding AreKnown
none_lost [] are_known = All-nil (λ gone. gone ≡ false)
none_lost (byte ∷ bytes) (is, are_known) =
    All-append (λ gone. gone ≡ false) (lost_byte_modules byte) (lost_modules bytes) (byte_not_gone byte is) (none_lost bytes are_known)

-- A text that shows a picture with its unknown modules light has as many modules.
as_many : (bytes : List ℕ) (picture : Picture) → IsPictureOf (light_text bytes) picture → length picture.modules ≡ length (lost_modules bytes)
as_many bytes picture shown = ap length (shown.modules ∙ sym (lines_modules shown.text.lines)) ∙ sym (same_count bytes)

light_shown : (grid : Picture) → IsMatrixSymbol grid → IsPictureOf (light_text (grid_text grid)) grid
light_shown grid matrix =
    subst (λ (b : List ℕ). IsPictureOf b grid) (sym (light_same (grid_text grid) (lines_known grid 0 (row_count grid)))) (text_shows grid matrix)

-- The text of a grid, with its unknown modules light or dark, shows it.
pub shown_known : (grid : Picture) → IsMatrixSymbol grid
    → IsPictureOf (light_text (grid_text grid)) grid × (grid ≡ darkened grid (record grid { modules = lost_modules (grid_text grid) }))
shown_known grid matrix = (
  light_shown grid matrix,
  sym (darkened_none grid (record grid { modules = lost_modules (grid_text grid) }) (omega (arith, as_many (grid_text grid) grid (light_shown grid matrix)))
      (none_lost (grid_text grid) (lines_known grid 0 (row_count grid)))),
)
