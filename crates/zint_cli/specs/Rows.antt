-- The rows of bars that are drawn and can be read: by which reader, and as which elements.
use Rattle.std.specs.Prelude.{◌≡◌, ℕ, Bool, List, map, is_some, Option, Some, None, Ok, if◌then◌else◌}
use Rattle.bar_base.specs.declared.element.Element.{Element}
use Rattle.bar_base.specs.declared.element.Element.TheVariants.{Byte}
use Rattle.aztec_modes.specs.Message.{message_elements}
use Rattle.bar_base.specs.declared.message.Message.{Message}
use Rattle.linear_reader.specs.Data.{digit_element}
use Rattle.linear_reader.specs.Drawn.{IsDrawnAs, fourteen, raised}
use Rattle.linear_reader.specs.Patterns.{symbology_of}
use Rattle.zint_settings.specs.Settings.{OnDrawing, Request}
use Rattle.zint_settings.specs.declared.drawing_options.DrawingOptions.{DrawingOptions}
use Rattle.zint_settings.specs.declared.symbology.Symbology.{Symbology}
use Rattle.zint_settings.specs.declared.symbology.Symbology.TheVariants.{Code39, ExtendedCode39, Code93, Code128, Gs1Code128, Itf14}
use Rattle.zint_draw.specs.Data.{data_of}
use Rattle.zint_draw.specs.Message.{message_for}
use Rattle.zint_draw.specs.declared.symbologies.Symbol.{Symbol}
use Rattle.zint_draw.specs.symbologies.{grid_of}
use Rattle.zint_draw.specs.symbologies.Code128.{kind128}
use Rattle.zint_cli.specs.Call.{text_in}
use Rattle.zint_cli.specs.Content.{IsContent}
use Rattle.zint_cli.specs.Ending.{OnRequest, Wrote, content}
use Rattle.zint_cli.specs.Outside.{Call}

-- The number by which rows of a symbology are read, where they are: those of Code 39 without its check character.
abbrev pub row_reader : Symbology → (checked : Bool) → Option ℕ
row_reader Code39 checked = if checked then None else Some 8
row_reader ExtendedCode39 checked = Some 9
row_reader Code93 checked = Some 25
row_reader Code128 checked = Some 20
row_reader Gs1Code128 checked = Some 20
row_reader Itf14 checked = Some 89
row_reader _ checked = None

-- The elements that are drawn of data: bytes, in Code 39 with letters raised; those of the message; the fourteen digits.
abbrev pub AreElements : Symbology → DrawingOptions → (data_bytes : List ℕ) → (body : List Element) → Type 0
AreElements Code39 options data_bytes body = body ≡ map raised data_bytes
AreElements Code128 options data_bytes body = (message : Message) × message_for (kind128 options) data_bytes (Ok message) × (body ≡ message_elements message)
AreElements Gs1Code128 options data_bytes body = (message : Message) × message_for (kind128 options) data_bytes (Ok message) × (body ≡ message_elements message)
AreElements Itf14 options data_bytes body = (digits : List ℕ) × (fourteen data_bytes ≡ Ok digits) × (body ≡ map digit_element digits)
AreElements _ options data_bytes body = body ≡ map Byte data_bytes

-- The row of a symbol is one that is drawn of the elements of data.
pub record IsRowOf (options : DrawingOptions) (symbology : Symbology) (number : ℕ) (data_bytes : List ℕ) (symbol : Symbol) : Type 0 where
  pub body : List Element
  pub elements : AreElements symbology options data_bytes body
  pub checks : List ℕ
  pub row : IsDrawnAs (symbology_of number) (grid_of options.height symbol).modules body checks

-- A symbol was drawn of the content's data, and written, and its row is one that is drawn of the elements of that data.
pub record DrawsRow {I O E : Type 0} (call : Call I O E) (request : Request) (options : DrawingOptions) (number : ℕ) : Type 0 where
  pub raw : List ℕ
  pub is_content : IsContent (content call request) raw
  pub data_bytes : List ℕ
  pub is_data : data_of options.escapes raw (Ok data_bytes)
  pub symbol : Symbol
  pub wrote : Wrote call (text_in options symbol)
  pub is_row : IsRowOf options options.symbology number data_bytes symbol

-- With status 0, where the words ask for a symbol whose rows are read: such a row was drawn and written.
abbrev pub DrawsRows : {I O E : Type 0} → Call I O E → Type 0
DrawsRows call = call.status ≡ 0 → OnRequest call (λ request. OnDrawing request.task (λ drawing. (number : ℕ)
    → row_reader drawing.options.symbology (is_some drawing.options.version) ≡ Some number → DrawsRow call request drawing.options number))
