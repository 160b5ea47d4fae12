-- The headline, in words of its own: what is drawn, what is read back, and what the demonstration shows.
use Rattle.std.specs.Prelude.{◌≡◌, ◌⊎◌, ◌≤◌, ◌++◌, ℕ, List, Ok, is_some, length}
use Rattle.bar_base.specs.GridText.{grid_text}
use Rattle.bar_base.specs.Picture.{Picture}
use Rattle.bar_base.specs.declared.message.Message.{Message}
use Rattle.aztec_best.specs.Shortest.{IsFewest}
use Rattle.aztec_modes.specs.Message.{message_elements}
use Rattle.aztec_modes.specs.Spelling.{IsSpelling}
use Rattle.aztec_layout.specs.Allowed.{allowed_of}
use Rattle.aztec_layout.specs.Smallest.{IsSmallest}
use Rattle.aztec_draw.specs.declared.symbol.AztecSymbol.{AztecSymbol}
use Rattle.code128_best.specs.Spelling.{SymbolSpells}
use Rattle.symbol_reader.specs.Drawn.{IsMessageSymbol}
use Rattle.bar_base.specs.Steps.{Step}
use Rattle.zint_settings.specs.Settings.{DrawingRequest, OnDemonstration, OnDrawing, OnReading, Request}
use Rattle.zint_settings.specs.declared.drawing_options.DrawingOptions.{DrawingOptions}
use Rattle.zint_settings.specs.declared.look.Look.{Look}
use Rattle.zint_settings.specs.declared.symbology.Symbology.TheVariants.{Aztec, Code128, Gs1Code128}
use Rattle.zint_demo.specs.Demonstration.{IsNearDrawing}
use Rattle.zint_demo.specs.Text.{demonstration_text}
use Rattle.zint_draw.specs.Data.{data_of}
use Rattle.zint_draw.specs.Message.{message_for}
use Rattle.zint_draw.specs.Segments.{message_of}
use Rattle.zint_draw.specs.declared.symbologies.Symbol.{Symbol}
use Rattle.zint_draw.specs.declared.symbologies.Symbol.TheVariants as symbols
use Rattle.zint_draw.specs.declared.symbologies.code128.Code128Symbol.{Code128Symbol}
use Rattle.zint_draw.specs.symbologies.Code128.{kind128}
use Rattle.zint_read.specs.readers.{Drawn}
use Rattle.zint_cli.specs.Call.{text_in}
use Rattle.zint_cli.specs.Content.{IsContent, known}
use Rattle.zint_cli.specs.Ending.{Fails, OnRequest, Wrote, content}
use Rattle.zint_cli.specs.Outside.{Call}
use Rattle.zint_answers.specs.declared.refusal.Refusal.{Refusal}

-- A symbol was drawn of the message of the content's data, and written; the fact holds of the message and the symbol.
pub record Draws {I O E : Type 0} (call : Call I O E) {S : Type 0} (symbol_in : S → Symbol) (request : Request) (options : DrawingOptions)
    (message_in : (data_bytes : List ℕ) → Step Message Refusal) (Holds : Message → S → Type 0) : Type 0 where
  pub raw : List ℕ
  pub is_content : IsContent (content call request) raw
  pub data_bytes : List ℕ
  pub is_data : data_of options.escapes raw (Ok data_bytes)
  pub message : Message
  pub is_message : message_in data_bytes (Ok message)
  pub symbol : S
  pub wrote : Wrote call (text_in options (symbol_in symbol))
  pub holds : Holds message symbol

-- No spelling of the message has fewer bits than the one of the symbol.
abbrev pub IsShortest : DrawingRequest → Message → AztecSymbol → Type 0
IsShortest drawing message symbol =
    IsSpelling (is_some drawing.append) (message_elements message) symbol.spelling
    × IsFewest (is_some drawing.append) (message_elements message) (length symbol.spelling)

-- The size is allowed and holds the spelling at the share, and every other such size comes after it, by side and compact before full.
abbrev pub HasSmallestSize : DrawingRequest → Message → AztecSymbol → Type 0
HasSmallestSize drawing message symbol =
    IsSmallest symbol.spelling (allowed_of drawing.options.share drawing.options.version) symbol.size

-- The grid is that of a symbol of the message: of codewords that carry a spelling of it, with the check codewords behind them.
abbrev pub ShowsMessage : DrawingRequest → Message → AztecSymbol → Type 0
ShowsMessage drawing message symbol =
    (codewords : List ℕ) × IsMessageSymbol message symbol.size symbol.held codewords symbol.grid

-- The values spell the message, and no list of values that spells it has fewer.
abbrev pub HasFewestValues : Message → Code128Symbol → Type 0
HasFewestValues message symbol =
    SymbolSpells symbol.values (message_elements message)
    × ((others : List ℕ) → SymbolSpells others (message_elements message) → length symbol.values ≤ length others)

-- A text ends with the grid of a picture near the drawing of the 1,500 bytes that are made from a number, so that it reads as those bytes.
pub record ShowsNearGrid (number : ℕ) (text : List ℕ) : Type 0 where
  pub lines : List ℕ
  pub picture : Picture
  pub near : IsNearDrawing (demonstration_text number) picture
  pub text_is : text ≡ lines ++ grid_text picture

module _ {I O E : Type 0} (call : Call I O E) where
  -- With status 0, where the words ask for an Aztec symbol: one was drawn and written, and the fact holds of it.
  abbrev pub DrawsAztec : (DrawingRequest → Message → AztecSymbol → Type 0) → Type 0
  DrawsAztec Holds = call.status ≡ 0 → OnRequest call (λ request. OnDrawing request.task (λ drawing.
      drawing.options.symbology ≡ Aztec → Draws call symbols.Aztec request drawing.options (message_of drawing) (Holds drawing)))

  -- The same for Code 128 and GS1-128.
  abbrev pub DrawsCode128 : (Message → Code128Symbol → Type 0) → Type 0
  DrawsCode128 Holds = call.status ≡ 0 → OnRequest call (λ request. OnDrawing request.task (λ drawing.
      (drawing.options.symbology ≡ Code128) ⊎ (drawing.options.symbology ≡ Gs1Code128)
      → Draws call symbols.Code128 request drawing.options (message_for (kind128 drawing.options)) Holds))

  -- Where the words ask for a reading of bytes that show what was drawn so: the call ends with 0 and a report that tells exactly that, or it fails.
  abbrev pub Reads : (Shows : (look : Look) → (bytes : List ℕ) → Drawn look → Type 0) → (Told : (look : Look) → Drawn look → (report : List ℕ) → Type 0) → Type 0
  Reads Shows Told = OnRequest call (λ request. OnReading request.task (λ look. (bytes : List ℕ) (drawn : Drawn look)
      → content call request ≡ known bytes → Shows look bytes drawn
      → ((call.status ≡ 0) × ((report : List ℕ) × Told look drawn report × Wrote call report)) ⊎ Fails call))

  -- With status 0, where the words ask for the demonstration: such a text was written.
  abbrev pub Demonstrates : Type 0
  Demonstrates = call.status ≡ 0 → OnRequest call (λ request. OnDemonstration request.task (λ number.
      (text : List ℕ) × ShowsNearGrid number text × Wrote call text))
