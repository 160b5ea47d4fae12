-- Code 128 and GS1-128 (ISO/IEC 15417, GS1 General Specifications).
use Rattle.std.specs.Prelude.{◌≡◌, ℕ, Bool, true, false, List, ◌++◌, length, codes, decimal, nat_lt, Option, Some, None, Result, Ok, Err, if◌then◌else◌}
use Rattle.bar_base.specs.Stripes.{row_picture}
use Rattle.bar_base.specs.declared.element.Element.{Element}
use Rattle.aztec_modes.specs.Message.{message_elements}
use Rattle.code128_best.specs.Spelling.{AreDrawnValues}
use Rattle.code128_best.specs.Symbol.{check128, symbol_widths128}
use Rattle.code128_best.specs.declared.drawing.TheConstants.{MOST_ELEMENTS}
use Rattle.zint_answers.specs.Report.{numbers_text}
use Rattle.bar_base.specs.Steps.{Step, ◌>>=◌, only}
use Rattle.zint_answers.specs.declared.detail.Unit.TheVariants.{Elements}
use Rattle.zint_answers.specs.declared.refusal.Refusal.{Refusal}
use Rattle.zint_answers.specs.declared.refusal.Refusal.TheVariants.{TooLong}
use Rattle.zint_settings.specs.Symbologies.{symbology_number}
use Rattle.zint_settings.specs.declared.drawing_options.DrawingOptions.{DrawingOptions}
use Rattle.zint_settings.specs.declared.drawing_options.Gs1Brackets.{Gs1Brackets}
use Rattle.zint_settings.specs.declared.drawing_options.Gs1Brackets.TheVariants.{Round, Square}
use Rattle.zint_settings.specs.declared.symbology.Symbology.{Symbology}
use Rattle.zint_draw.specs.Message.{message_for}
use Rattle.zint_draw.specs.declared.message.DataKind.{DataKind}
use Rattle.zint_draw.specs.declared.message.DataKind.TheVariants as kind
use Rattle.zint_draw.specs.declared.symbologies.Symbol.{Symbol}
use Rattle.zint_draw.specs.declared.symbologies.Symbol.TheVariants as symbol
use Rattle.zint_draw.specs.declared.symbologies.code128.Code128Symbol.{Code128Symbol}

-- What the data is: GS1 element strings where their brackets are asked for, else bytes, or text in ISO/IEC 8859-1.
abbrev pub kind128_by : Option Gs1Brackets → (binary : Bool) → DataKind
kind128_by (Some Round) binary = kind.Gs1 true
kind128_by (Some Square) binary = kind.Gs1 false
kind128_by None binary = if binary then kind.Bytes None else kind.Latin1

-- What the data is, by the options of the drawing.
abbrev pub kind128 : DrawingOptions → DataKind
kind128 options = kind128_by options.gs1 options.binary

-- elements of which there are not too many
abbrev pub within_limit128 : (elements : List Element) → Result (List Element) Refusal
within_limit128 elements =
    if nat_lt MOST_ELEMENTS (length elements) then Err (TooLong MOST_ELEMENTS Elements) else Ok elements

-- the elements of data: those of its message
unfoldable pub elements128 : DrawingOptions → (bytes : List ℕ) → Step (List Element) Refusal
elements128 options bytes = do
  message ← message_for (kind128 options) bytes
  only (within_limit128 (message_elements message))

-- The symbol of elements: the row of their drawn values.
abbrev pub draws_values : Symbology → (elements : List Element) → Step Symbol Refusal
draws_values symbology elements (Ok (symbol.Code128 s)) =
    (s.symbology ≡ symbology) × AreDrawnValues elements s.values × (s.grid ≡ row_picture (symbol_widths128 s.values))
draws_values symbology elements (Ok _) = ⊥
draws_values symbology elements (Err _) = ⊥

-- the symbol of data
unfoldable pub draws128 : DrawingOptions → (bytes : List ℕ) → Step Symbol Refusal
draws128 options bytes = do
  elements ← elements128 options bytes
  draws_values options.symbology elements

-- the lines of the report before the grid
abbrev pub head128 : Code128Symbol → List ℕ
head128 s =
    codes "symbol=" ++ decimal (symbology_number s.symbology)
    ++ codes "\ncharacters=" ++ decimal (length s.values)
    ++ codes "\nvalues=" ++ numbers_text s.values
    ++ codes "\ncheck=" ++ decimal (check128 s.values)
    ++ codes "\nmodules=" ++ decimal s.grid.width
    ++ codes "\ngrid:\n"
