-- The demonstration of a number: what is shown of five prefixes of its text.
use Rattle.std.specs.Prelude.{◌≡◌, ◌-◌, ℕ, List, [], ◌++◌, Ok, Err, None, false, length, take, codes, decimal}
use Rattle.bar_base.specs.Picture.{Picture}
use Rattle.aztec_modes.specs.Entry.{bytes_as_elements}
use Rattle.aztec_layout.specs.Allowed.{allowed_of}
use Rattle.aztec_layout.specs.Sizes.{codewords_of}
use Rattle.aztec_draw.specs.Symbol.{IsAztecSymbol}
use Rattle.aztec_draw.specs.declared.symbol.AztecSymbol.{AztecSymbol}
use Rattle.symbol_reader.specs.Drawn.{IsNearSymbol}
use Rattle.zint_answers.specs.Report.{size_text}
use Rattle.bar_base.specs.Steps.{Step, ◌>>=◌, only}
use Rattle.zint_demo.specs.Damage.{IsDamaged, damage_of}
use Rattle.zint_demo.specs.Text.{demonstration_text}
use Rattle.zint_demo.specs.declared.demonstration.Demonstration.{Demonstration}
use Rattle.zint_answers.specs.declared.refusal.Refusal.{Refusal}

-- The symbol of bytes at a share of 23 percent of check codewords: of all their spellings with fewest bits the first in
-- dictionary order, in the smallest size that holds it (ISO/IEC 24778).
abbrev pub IsDrawingOf : (bytes : List ℕ) → AztecSymbol → Type 0
IsDrawingOf bytes symbol = IsAztecSymbol false (bytes_as_elements bytes) (allowed_of 23 None) symbol

-- The symbol of bytes. There is no refusal: at most 1,500 bytes always fit.
abbrev pub draws_bytes : (bytes : List ℕ) → Step AztecSymbol Refusal
draws_bytes bytes (Ok symbol) = IsDrawingOf bytes symbol
draws_bytes bytes (Err refusal) = ⊥

-- The line of a prefix of so many bytes: its length, the bits of the spelling, the size, the data and check codewords,
-- and how many codewords are damaged.
unfoldable pub demonstration_line : (count : ℕ) → AztecSymbol → List ℕ
demonstration_line count symbol =
    codes "bytes=" ++ decimal count ++ codes " bits=" ++ decimal (length symbol.spelling)
    ++ codes " size=" ++ size_text symbol.size
    ++ codes " codewords=" ++ decimal symbol.held ++ codes "+" ++ decimal (codewords_of symbol.size - symbol.held)
    ++ codes " damaged=" ++ decimal (damage_of symbol.size symbol.held) ++ codes "\n"

-- The lines with that of the prefix of so many bytes behind them.
unfoldable pub adds_line : (lines text : List ℕ) (count : ℕ) → Step (List ℕ) Refusal
adds_line lines text count = do
  symbol ← draws_bytes (take count text)
  only (Ok (lines ++ demonstration_line count symbol))

-- The lines, the last line and the line `grid:`, and the picture of the symbol, damaged.
abbrev pub shows_damaged : (lines : List ℕ) → AztecSymbol → Step Demonstration Refusal
shows_damaged lines symbol (Ok shown) =
    (shown.lines.items ≡ lines ++ demonstration_line 1500 symbol ++ codes "grid:\n")
    × IsDamaged symbol.size symbol.held symbol.grid shown.grid
shows_damaged lines symbol (Err refusal) = ⊥

-- The same for the symbol of the whole text.
unfoldable pub shows_last_symbol : (lines text : List ℕ) → Step Demonstration Refusal
shows_last_symbol lines text = do
  symbol ← draws_bytes text
  shows_damaged lines symbol

-- The demonstration of a text: the lines of its prefixes of 1, 10, 100, 500 and 1,500 bytes, the line `grid:`, and the
-- picture of the last symbol, damaged.
unfoldable pub demonstrates_text : (text : List ℕ) → Step Demonstration Refusal
demonstrates_text text = do
  one ← adds_line [] text 1
  ten ← adds_line one text 10
  hundred ← adds_line ten text 100
  lines ← adds_line hundred text 500
  shows_last_symbol lines text

-- The demonstration of a number: that of its text.
abbrev pub demonstrates : (number : ℕ) → Step Demonstration Refusal
demonstrates number = demonstrates_text (demonstration_text number)

-- A picture is near the drawing of bytes (symbol_reader: such a picture reads as what was drawn).
pub record IsNearDrawing (bytes : List ℕ) (picture : Picture) : Type 0 where
  pub symbol : AztecSymbol
  pub drawn : IsDrawingOf bytes symbol
  pub near : IsNearSymbol symbol.size symbol.held drawn.symbol_of.codewords symbol.grid picture
