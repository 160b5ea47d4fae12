-- The headline's words on drawings, from what was written.
use Rattle.std.proofs.Common.{◌≡◌, ◌≤◌, ◌<◌, ◌⊎◌, ℕ, Bool, true, false, List, [], ◌∷◌, Ok, Err, is_some, if◌then◌else◌, refl, subst, sym, ap, ◌∙◌, inl, inr, length, arith}
use Rattle.std.specs.declared.option.Option.{Option}
use Rattle.bar_base.specs.declared.element.Element.{Element}
use Rattle.bar_base.specs.declared.message.Append.{Append}
use Rattle.bar_base.specs.declared.message.Message.{Message}
use Rattle.aztec_best.specs.Shortest.{Precedes}
use Rattle.aztec_modes.specs.Message.{message_elements}
use Rattle.aztec_modes.specs.Spelling.{IsSpelling}
use Rattle.aztec_layout.specs.Allowed.{allowed_of}
use Rattle.aztec_draw.specs.Symbol.{IsAztecSymbol}
use Rattle.aztec_draw.specs.declared.symbol.AztecSymbol.{AztecSymbol}
use Rattle.code128_best.specs.Spelling.{AreDrawnValues, ValuesPrecede}
use Rattle.zint_answers.specs.declared.refusal.Refusal.{Refusal}
use Rattle.zint_words.specs.Outcome.{settings}
use Rattle.zint_settings.specs.Settings.{DrawingRequest, Request, drawing}
use Rattle.zint_settings.specs.declared.symbology.Symbology.{Symbology}
use Rattle.zint_settings.specs.declared.symbology.Symbology.TheVariants.{Aztec, Code128, Gs1Code128}
use Rattle.zint_settings.proofs.Known.{IsFit}
use Rattle.zint_draw.specs.Data.{data_of, not_empty}
use Rattle.zint_draw.specs.Drawing.{draws}
use Rattle.zint_draw.specs.Message.{message_for}
use Rattle.zint_draw.specs.Segments.{message_of}
use Rattle.zint_draw.specs.declared.symbologies.Symbol.{Symbol}
use Rattle.zint_draw.specs.declared.symbologies.Symbol.TheVariants as symbols
use Rattle.zint_draw.specs.declared.symbologies.code128.Code128Symbol.{Code128Symbol}
use Rattle.zint_draw.specs.symbologies.{draws_as, draws_in}
use Rattle.zint_draw.specs.symbologies.Aztec as aztec
use Rattle.zint_draw.specs.symbologies.Code128 as code128
use Rattle.zint_draw.proofs.ProperMessages.{message_proper}
use Rattle.zint_cli.specs.Call.{drawn_text, responds, text_in}
use Rattle.zint_cli.specs.Content.{Content, IsContent}
use Rattle.zint_cli.specs.Ending.{Answers, OnRequest, Wrote, content}
use Rattle.zint_cli.specs.Headline.{DrawsAztec, DrawsCode128, HasFewestValues, HasSmallestSize, IsShortest, ShowsMessage}
use Rattle.zint_cli.specs.Outside.{Call}
use Rattle.zint_cli.proofs.Requests.{on_drawing, responded}

-- what passes a limit is what was given to it
pub limit_passed : {A : Type 0} (over : Bool) (given passed : A) (refusal : Refusal) → Ok passed ≡ (if over then Err refusal else Ok given) → passed ≡ given
limit_passed true given passed refusal is = absurd (cc)
limit_passed false given passed refusal is = cc

-- what is not empty is what was given, and has a byte
not_empty_passed : (bytes some : List ℕ) → Ok some ≡ not_empty bytes → (some ≡ bytes) × (0 < length bytes)
not_empty_passed [] some is = absurd (cc)
not_empty_passed (byte ∷ bytes) some is = (cc, omega arith)

-- What was drawn where a text answers a drawing: the data and the symbol.
pub record Drawn (request : DrawingRequest) (content : Content) (text : List ℕ) : Type 0 where
  pub raw : List ℕ
  pub is_content : IsContent content raw
  pub data_bytes : List ℕ
  pub is_data : data_of request.options.escapes raw (Ok data_bytes)
  pub some : 0 < length data_bytes
  pub symbol : Symbol
  pub is_symbol : draws_as request data_bytes (Ok symbol)
  pub text_is : text ≡ text_in request.options symbol

drawn_of : (request : DrawingRequest) (content : Content) (text : List ℕ) → responds (drawing request) content (Ok text) → Drawn request content text
unfolding responds drawn_text draws
drawn_of request content text (raw, (is_content, within), (symbol, (whole, whole_is, (bytes, is_data, (some, some_is, drawn))), is)) =
    let same : whole ≡ raw = limit_passed _ raw whole _ whole_is in
    let passed = not_empty_passed bytes some some_is in
    record {
      raw = raw;
      is_content = is_content;
      data_bytes = bytes;
      is_data = subst (λ (given : List ℕ). data_of request.options.escapes given (Ok bytes)) same is_data;
      some = passed.1;
      symbol = symbol;
      is_symbol = subst (λ (given : List ℕ). draws_as request given (Ok symbol)) passed.0 drawn;
      text_is = cc;
    }

-- The symbol is an Aztec symbol of the message of data.
record IsAztecOf (request : DrawingRequest) (data_bytes : List ℕ) (symbol : Symbol) : Type 0 where
  message : Message
  is_message : message_of request data_bytes (Ok message)
  drawn : AztecSymbol
  is_drawn : IsAztecSymbol (is_some request.append) (message_elements message) (allowed_of request.options.share request.options.version) drawn
  symbol_is : symbol ≡ symbols.Aztec drawn

aztec_elements : (request : DrawingRequest) (bytes : List ℕ) (message : Message) (symbol : Symbol) → message_of request bytes (Ok message)
    → aztec.draws_elements request (message_elements message) (Ok symbol) → IsAztecOf request bytes symbol
aztec_elements request bytes message (symbols.Aztec s) is_message drawn = record { message = message; is_message = is_message; drawn = s; is_drawn = drawn; symbol_is = refl }
aztec_elements request bytes message (symbols.Rune s) is_message drawn = absurd drawn
aztec_elements request bytes message (symbols.Code128 s) is_message drawn = absurd drawn
aztec_elements request bytes message (symbols.Linear symbology s) is_message drawn = absurd drawn
aztec_elements request bytes message (symbols.FourState s) is_message drawn = absurd drawn

aztec_of : (request : DrawingRequest) (bytes : List ℕ) (symbol : Symbol) → request.options.symbology ≡ Aztec → draws_as request bytes (Ok symbol)
    → IsAztecOf request bytes symbol
unfolding draws_as aztec.draws_aztec aztec.elements_for
aztec_of request bytes symbol asked drawn =
    let (elements, (message, is_message, passed), is_symbol) = subst (λ symbology. draws_in symbology request bytes (Ok symbol)) asked drawn in
    let same : elements ≡ message_elements message = limit_passed _ (message_elements message) elements _ passed in
    aztec_elements request bytes message symbol is_message (subst (λ (es : List Element). aztec.draws_elements request es (Ok symbol)) same is_symbol)

-- The symbol is one of Code 128 of the message of data.
record IsCode128Of (request : DrawingRequest) (data_bytes : List ℕ) (symbol : Symbol) : Type 0 where
  message : Message
  is_message : message_for (code128.kind128 request.options) data_bytes (Ok message)
  drawn : Code128Symbol
  values : AreDrawnValues (message_elements message) drawn.values
  symbol_is : symbol ≡ symbols.Code128 drawn

code128_elements : (request : DrawingRequest) (bytes : List ℕ) (message : Message) (symbology : Symbology) (symbol : Symbol)
    → message_for (code128.kind128 request.options) bytes (Ok message) → code128.draws_values symbology (message_elements message) (Ok symbol)
    → IsCode128Of request bytes symbol
code128_elements request bytes message symbology (symbols.Code128 s) is_message drawn = record { message = message; is_message = is_message; drawn = s; values = drawn.1; symbol_is = refl }
code128_elements request bytes message symbology (symbols.Aztec s) is_message drawn = absurd drawn
code128_elements request bytes message symbology (symbols.Rune s) is_message drawn = absurd drawn
code128_elements request bytes message symbology (symbols.Linear kind s) is_message drawn = absurd drawn
code128_elements request bytes message symbology (symbols.FourState s) is_message drawn = absurd drawn

code128_drawn : (request : DrawingRequest) (bytes : List ℕ) (symbol : Symbol) → code128.draws128 request.options bytes (Ok symbol) → IsCode128Of request bytes symbol
unfolding code128.draws128 code128.elements128
code128_drawn request bytes symbol (elements, (message, is_message, passed), is_symbol) =
    let same : elements ≡ message_elements message = limit_passed _ (message_elements message) elements _ passed in
    code128_elements request bytes message request.options.symbology symbol is_message
    (subst (λ (es : List Element). code128.draws_values request.options.symbology es (Ok symbol)) same is_symbol)

-- both symbologies are drawn by the same steps
code128_of : (request : DrawingRequest) (bytes : List ℕ) (symbol : Symbol) → (request.options.symbology ≡ Code128) ⊎ (request.options.symbology ≡ Gs1Code128)
    → draws_as request bytes (Ok symbol) → IsCode128Of request bytes symbol
unfolding draws_as
code128_of request bytes symbol (inl is) drawn = code128_drawn request bytes symbol (subst (λ symbology. draws_in symbology request bytes (Ok symbol)) is drawn)
code128_of request bytes symbol (inr is) drawn = code128_drawn request bytes symbol (subst (λ symbology. draws_in symbology request bytes (Ok symbol)) is drawn)

-- what precedes is no longer
precedes_shorter : (former latter : List Bool) → Precedes former latter → length former ≤ length latter
precedes_shorter former latter (inl shorter) = omega (arith, shorter)
precedes_shorter former latter (inr (same, order)) = omega (arith, same)

precede_fewer : (former latter : List ℕ) → ValuesPrecede former latter → length former ≤ length latter
precede_fewer former latter (inl fewer) = omega (arith, fewer)
precede_fewer former latter (inr (same, order)) = omega (arith, same)

-- A fact of each symbol of data that is not empty, where the request is within the rules.
abbrev Each : (DrawingRequest → Message → AztecSymbol → Type 0) → Type 0
Each Holds = (request : DrawingRequest) (bytes : List ℕ) (message : Message) (symbol : AztecSymbol) → 0 < length bytes → IsFit (drawing request)
    → message_of request bytes (Ok message)
    → IsAztecSymbol (is_some request.append) (message_elements message) (allowed_of request.options.share request.options.version) symbol
    → Holds request message symbol

pub each_shortest : Each IsShortest
each_shortest request bytes message symbol some fit is_message is =
    (is.drawn.spelling, λ other spells. precedes_shorter symbol.spelling other (is.drawn.first other spells))

pub each_smallest : Each HasSmallestSize
each_smallest request bytes message symbol some fit is_message is = is.symbol_of.smallest

pub each_message : Each ShowsMessage
each_message request bytes message symbol some fit is_message is =
    let proper = message_proper request bytes message some fit is_message in (
      is.symbol_of.codewords,
      record {
        proper = proper.0;
        bits = symbol.spelling;
        spelled = subst (λ (append : Option Append). IsSpelling (is_some append) (message_elements message) symbol.spelling) (sym proper.1) is.drawn.spelling;
        words = is.symbol_of.words;
        carried = is.symbol_of.stuffed.carried;
        held_is = is.symbol_of.held_is;
        sized = symbol.sized;
        can_hold = symbol.can_hold;
        coded = is.symbol_of.coded;
        grid = is.symbol_of.grid;
      },
    )

module _ {I O E : Type 0} (call : Call I O E) (written : call.status ≡ 0 → (text : List ℕ) × Answers call (Ok text) × Wrote call text) where
  -- what was drawn and written
  pub drawn_by : (zero : call.status ≡ 0) (request : Request) → call.outcome ≡ settings request → (d : DrawingRequest) → request.task ≡ drawing d
      → Drawn d (content call request) (written zero).0
  drawn_by zero request is d task_is =
      drawn_of d (content call request) (written zero).0
      (subst (λ task. responds task (content call request) (Ok (written zero).0)) task_is
      (responded call request is (Ok (written zero).0) (written zero).1))

  pub draws_aztec : (Holds : DrawingRequest → Message → AztecSymbol → Type 0) → Each Holds → (call.status ≡ 0 → OnRequest call (λ request. IsFit request.task))
      → DrawsAztec call Holds
  draws_aztec Holds each fit = λ zero request is. on_drawing request.task _ (λ d task_is asked.
      let w = drawn_by zero request is d task_is in
      let a = aztec_of d w.data_bytes w.symbol asked w.is_symbol in
      record {
        raw = w.raw;
        is_content = w.is_content;
        data_bytes = w.data_bytes;
        is_data = w.is_data;
        message = a.message;
        is_message = a.is_message;
        symbol = a.drawn;
        wrote = subst (Wrote call) (w.text_is ∙ ap (text_in d.options) a.symbol_is) (written zero).2;
        holds = each d w.data_bytes a.message a.drawn w.some (subst IsFit task_is (fit zero request is)) a.is_message a.is_drawn;
      })

  pub draws_fewest : DrawsCode128 call HasFewestValues
  draws_fewest = λ zero request is. on_drawing request.task _ (λ d task_is asked.
      let w = drawn_by zero request is d task_is in
      let a = code128_of d w.data_bytes w.symbol asked w.is_symbol in
      record {
        raw = w.raw;
        is_content = w.is_content;
        data_bytes = w.data_bytes;
        is_data = w.is_data;
        message = a.message;
        is_message = a.is_message;
        symbol = a.drawn;
        wrote = subst (Wrote call) (w.text_is ∙ ap (text_in d.options) a.symbol_is) (written zero).2;
        holds = (a.values.spelling, λ others spells. precede_fewer a.drawn.values others (a.values.first others spells));
      })
