-- The rows of bars that are drawn, from what was written.
use Rattle.std.proofs.Common.{◌≡◌, ◌++◌, ℕ, Bool, true, false, List, [], ◌∷◌, map, Ok, Err, is_some, if◌then◌else◌, refl, subst, sym, ap}
use Rattle.std.specs.Prelude.{Some, None}
use Rattle.bar_base.specs.CheckDigit.{check_digit}
use Rattle.bar_base.specs.Results.{◌>>=◌}
use Rattle.bar_base.specs.Stripes.{row_picture}
use Rattle.bar_base.specs.Text.{values_of_text}
use Rattle.bar_base.specs.declared.element.Element.{Element}
use Rattle.bar_base.specs.declared.element.Element.TheVariants.{Byte}
use Rattle.bar_base.specs.Picture.{Picture}
use Rattle.bar_base.specs.declared.linear.Linear.{Linear}
use Rattle.bar_base.specs.declared.message.Message.{Message}
use Rattle.aztec_modes.specs.Message.{message_elements}
use Rattle.code128_best.specs.Symbol.{check128}
use Rattle.linear_codes.specs.Code39.{code39_full_of, code39_of}
use Rattle.linear_codes.specs.Code93.{code93_of}
use Rattle.linear_codes.specs.Itf14.{digit_values, itf14_of, symbol14, thirteen}
use Rattle.linear_reader.specs.Data.{digit_element}
use Rattle.linear_reader.specs.Drawn.{IsDrawnAs, fourteen, raised}
use Rattle.linear_reader.specs.Patterns.{symbology_of}
use Rattle.zint_settings.specs.Settings.{DrawingRequest}
use Rattle.zint_settings.specs.declared.drawing_options.DrawingOptions.{DrawingOptions}
use Rattle.zint_settings.specs.declared.symbology.Symbology.{Symbology}
use Rattle.zint_settings.specs.declared.symbology.Symbology.TheVariants as symbology
use Rattle.zint_draw.specs.Message.{message_for}
use Rattle.zint_draw.specs.declared.symbologies.Symbol.{Symbol}
use Rattle.zint_draw.specs.declared.symbologies.Symbol.TheVariants as symbols
use Rattle.zint_draw.specs.symbologies.{draws_as, draws_in, grid_of}
use Rattle.zint_draw.specs.symbologies.Code39 as code39
use Rattle.zint_draw.specs.symbologies.Code93 as code93
use Rattle.zint_draw.specs.symbologies.Code128 as code128
use Rattle.zint_draw.specs.symbologies.Itf14 as itf14
use Rattle.zint_cli.specs.Ending.{Answers, Wrote}
use Rattle.zint_cli.specs.Outside.{Call}
use Rattle.zint_cli.specs.Rows.{DrawsRows, IsRowOf, row_reader}
use Rattle.zint_cli.proofs.Drawings.{drawn_by, limit_passed}
use Rattle.zint_cli.proofs.Requests.{on_drawing}

-- the row of a linear symbol, whatever its height
linear_row : (height number : ℕ) (symbol : Symbol) (kind : Symbology) (drawn : Linear) (body : List Element) → symbol ≡ symbols.Linear kind drawn
    → IsDrawnAs (symbology_of number) drawn.grid.modules body drawn.checks → IsDrawnAs (symbology_of number) (grid_of height symbol).modules body drawn.checks
linear_row height number symbol kind drawn body is row =
    subst (λ (s : Symbol). IsDrawnAs (symbology_of number) (grid_of height s).modules body drawn.checks) (sym is) row

-- where a text is drawn as ITF-14, it has fourteen digits
digits_of : (text : List ℕ) (symbol : Linear) → itf14_of text ≡ Ok symbol → (digits : List ℕ) × (fourteen text ≡ Ok digits)
unfolding itf14_of fourteen
digits_of text symbol drawn =
    elim (values_of_text digit_values 14 text) as (λ r. (r >>= λ values. thirteen values >>= λ front. Ok (symbol14 front)) ≡ Ok symbol
    → (digits : List ℕ) × ((r >>= λ values. thirteen values >>= λ front. Ok (front ++ check_digit front ∷ [])) ≡ Ok digits)) [
      | Err fault ↦ λ bad. absurd (cc)
      | Ok values ↦ λ given. elim (thirteen values) as (λ t. (t >>= λ front. Ok (symbol14 front)) ≡ Ok symbol
          → (digits : List ℕ) × ((t >>= λ front. Ok (front ++ check_digit front ∷ [])) ≡ Ok digits)) [
            | Err fault ↦ λ bad. absurd (cc)
            | Ok front ↦ λ one. (front ++ check_digit front ∷ [], refl)
          ] given
    ] drawn

-- Code 39 without its check character
row39 : (options : DrawingOptions) (bytes : List ℕ) (symbol : Symbol) (drawn : Linear) (number : ℕ) (checked : Bool) → (if checked then None else Some 8) ≡ Some number
    → code39_of bytes checked ≡ Ok drawn → symbol ≡ symbols.Linear symbology.Code39 drawn → IsRowOf options symbology.Code39 number bytes symbol
unfolding symbology_of
row39 options bytes symbol drawn number true reader gives is = absurd (cc)
row39 options bytes symbol drawn number false reader gives is =
    let same : 8 ≡ number = cc in
    subst (λ (n : ℕ). IsRowOf options symbology.Code39 n bytes symbol) same (record {
      body = map raised bytes;
      elements = refl;
      checks = drawn.checks;
      row = linear_row options.height 8 symbol symbology.Code39 drawn (map raised bytes) is
          (record { text = bytes; symbol = drawn; drawn = gives; modules_are = refl; body_is = refl; checks_are = refl });
    })

row39_full : (options : DrawingOptions) (bytes : List ℕ) (symbol : Symbol) (drawn : Linear) → code39_full_of bytes ≡ Ok drawn
    → symbol ≡ symbols.Linear symbology.ExtendedCode39 drawn → IsRowOf options symbology.ExtendedCode39 9 bytes symbol
unfolding symbology_of
row39_full options bytes symbol drawn gives is = record {
  body = map Byte bytes;
  elements = refl;
  checks = drawn.checks;
  row = linear_row options.height 9 symbol symbology.ExtendedCode39 drawn (map Byte bytes) is
      (record { text = bytes; symbol = drawn; drawn = gives; modules_are = refl; body_is = refl; checks_are = refl });
}

row93 : (options : DrawingOptions) (bytes : List ℕ) (symbol : Symbol) (drawn : Linear) → code93_of bytes ≡ Ok drawn
    → symbol ≡ symbols.Linear symbology.Code93 drawn → IsRowOf options symbology.Code93 25 bytes symbol
unfolding symbology_of
row93 options bytes symbol drawn gives is = record {
  body = map Byte bytes;
  elements = refl;
  checks = drawn.checks;
  row = linear_row options.height 25 symbol symbology.Code93 drawn (map Byte bytes) is
      (record { text = bytes; symbol = drawn; drawn = gives; modules_are = refl; body_is = refl; checks_are = refl });
}

row14 : (options : DrawingOptions) (bytes : List ℕ) (symbol : Symbol) (drawn : Linear) → itf14_of bytes ≡ Ok drawn
    → symbol ≡ symbols.Linear symbology.Itf14 drawn → IsRowOf options symbology.Itf14 89 bytes symbol
unfolding symbology_of
row14 options bytes symbol drawn gives is =
    let (digits, are) = digits_of bytes drawn gives in
    record {
      body = map digit_element digits;
      elements = (digits, are, refl);
      checks = drawn.checks;
      row = linear_row options.height 89 symbol symbology.Itf14 drawn (map digit_element digits) is (record {
        text = bytes;
        digits = digits;
        symbol = drawn;
        drawn = gives;
        fourteen_are = are;
        modules_are = refl;
        body_is = refl;
        checks_are = refl;
      });
    }

-- Code 128, as bytes or as GS1 element strings
pub record IsRow128 (options : DrawingOptions) (data_bytes : List ℕ) (symbol : Symbol) : Type 0 where
  pub message : Message
  pub is_message : message_for (code128.kind128 options) data_bytes (Ok message)
  pub checks : List ℕ
  pub row : IsDrawnAs (symbology_of 20) (grid_of options.height symbol).modules (message_elements message) checks

values_row : (options : DrawingOptions) (bytes : List ℕ) (kind : Symbology) (message : Message) (symbol : Symbol) → message_for (code128.kind128 options) bytes (Ok message)
    → code128.draws_values kind (message_elements message) (Ok symbol) → IsRow128 options bytes symbol
unfolding symbology_of row_picture
values_row options bytes kind message (symbols.Code128 s) is_message (kind_is, values, grid) = record {
  message = message;
  is_message = is_message;
  checks = check128 s.values ∷ [];
  row = record { values = s.values; spelled = values.spelling; modules_are = ap (λ (p : Picture). p.modules) grid; checks_are = refl };
}
values_row options bytes kind message (symbols.Aztec s) is_message drawn = absurd drawn
values_row options bytes kind message (symbols.Rune s) is_message drawn = absurd drawn
values_row options bytes kind message (symbols.Linear other s) is_message drawn = absurd drawn
values_row options bytes kind message (symbols.FourState s) is_message drawn = absurd drawn

row128 : (options : DrawingOptions) (bytes : List ℕ) (symbol : Symbol) → code128.draws128 options bytes (Ok symbol) → IsRow128 options bytes symbol
unfolding code128.draws128 code128.elements128
row128 options bytes symbol (elements, (message, is_message, passed), is_symbol) =
    let same : elements ≡ message_elements message = limit_passed _ (message_elements message) elements _ passed in
    values_row options bytes options.symbology message symbol is_message
    (subst (λ (es : List Element). code128.draws_values options.symbology es (Ok symbol)) same is_symbol)

-- The row of a symbol whose rows are read.
row_in : (kind : Symbology) (d : DrawingRequest) (bytes : List ℕ) (symbol : Symbol) (number : ℕ) → row_reader kind (is_some d.options.version) ≡ Some number
    → draws_in kind d bytes (Ok symbol) → IsRowOf d.options kind number bytes symbol
unfolding code39.draws39 code39.draws39_full code93.draws93 itf14.draws14
row_in symbology.Code39 d bytes symbol number reader (drawn, gives, is) = row39 d.options bytes symbol drawn number (is_some d.options.version) reader gives (cc)
row_in symbology.ExtendedCode39 d bytes symbol number reader (drawn, gives, is) =
    (let same : 9 ≡ number = cc in subst (λ (n : ℕ). IsRowOf d.options symbology.ExtendedCode39 n bytes symbol) same (row39_full d.options bytes symbol drawn gives (cc)))
row_in symbology.Code93 d bytes symbol number reader (drawn, gives, is) =
    (let same : 25 ≡ number = cc in subst (λ (n : ℕ). IsRowOf d.options symbology.Code93 n bytes symbol) same (row93 d.options bytes symbol drawn gives (cc)))
row_in symbology.Itf14 d bytes symbol number reader (drawn, gives, is) =
    (let same : 89 ≡ number = cc in subst (λ (n : ℕ). IsRowOf d.options symbology.Itf14 n bytes symbol) same (row14 d.options bytes symbol drawn gives (cc)))
row_in symbology.Code128 d bytes symbol number reader drawn =
    (let same : 20 ≡ number = cc in
    let r = row128 d.options bytes symbol drawn in
    subst (λ (n : ℕ). IsRowOf d.options symbology.Code128 n bytes symbol) same
    (record { body = message_elements r.message; elements = (r.message, r.is_message, refl); checks = r.checks; row = r.row }))
row_in symbology.Gs1Code128 d bytes symbol number reader drawn =
    (let same : 20 ≡ number = cc in
    let r = row128 d.options bytes symbol drawn in
    subst (λ (n : ℕ). IsRowOf d.options symbology.Gs1Code128 n bytes symbol) same
    (record { body = message_elements r.message; elements = (r.message, r.is_message, refl); checks = r.checks; row = r.row }))
row_in symbology.Rm4scc d bytes symbol number reader drawn = absurd (cc)
row_in symbology.Aztec d bytes symbol number reader drawn = absurd (cc)
row_in symbology.AztecRune d bytes symbol number reader drawn = absurd (cc)

-- A symbol whose rows are read was drawn and written, with such a row.
pub draws_rows : {I O E : Type 0} (call : Call I O E) (written : call.status ≡ 0 → (text : List ℕ) × Answers call (Ok text) × Wrote call text) → DrawsRows call
unfolding draws_as
draws_rows call written = λ zero request is. on_drawing request.task _ (λ d task_is number reader.
    let w = drawn_by call written zero request is d task_is in
    record {
      raw = w.raw;
      is_content = w.is_content;
      data_bytes = w.data_bytes;
      is_data = w.is_data;
      symbol = w.symbol;
      wrote = subst (Wrote call) w.text_is (written zero).2;
      is_row = row_in d.options.symbology d w.data_bytes w.symbol number reader w.is_symbol;
    })
