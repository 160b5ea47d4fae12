-- A content has one answer: one symbol, or one refusal.
use Rattle.std.proofs.Common.{◌≡◌, ℕ, List, sym, ap, ◌∙◌}
use Rattle.std.specs.Prelude.{Ok, Err, is_some}
use Rattle.bar_base.specs.Picture.{Picture}
use Rattle.bar_base.specs.Stripes.{row_picture}
use Rattle.bar_base.specs.declared.element.Element.{Element}
use Rattle.aztec_layout.specs.Allowed.{allowed_of}
use Rattle.aztec_layout.specs.Rune.{IsRune, IsRuneMessage}
use Rattle.aztec_layout.specs.declared.choice.NoFit.{NoFit as Misfit}
use Rattle.aztec_layout.proofs.SymbolLemmas.{rune_picture_once}
use Rattle.aztec_draw.specs.declared.symbol.AztecSymbol.{AztecSymbol}
use Rattle.aztec_draw.proofs.OneModeMessage.{rune_message_once}
use Rattle.aztec_draw.proofs.OneSymbol.{aztec_symbol_once, no_symbol_once, symbol_or_none}
use Rattle.code128_best.specs.Symbol.{symbol_widths128}
use Rattle.code128_best.proofs.WayLaws.{drawn_once}
use Rattle.linear_codes.specs.Code39.{code39_full_of, code39_of}
use Rattle.linear_codes.specs.Code93.{code93_of}
use Rattle.linear_codes.specs.Itf14.{itf14_of}
use Rattle.four_state.specs.FourState.{rm4scc_of}
use Rattle.zint_answers.specs.declared.refusal.Refusal.TheVariants.{NoFit}
use Rattle.zint_settings.specs.Settings.{DrawingRequest}
use Rattle.zint_settings.specs.declared.drawing_options.DrawingOptions.{DrawingOptions}
use Rattle.zint_settings.specs.declared.symbology.Symbology.{Symbology}
use Rattle.zint_settings.specs.declared.symbology.Symbology.TheVariants as symbology
use Rattle.zint_draw.specs.Data.{not_empty}
use Rattle.zint_draw.specs.Drawing.{draws}
use Rattle.zint_draw.specs.Segments.{within_bytes}
use Rattle.zint_draw.specs.declared.symbologies.Symbol.TheVariants as symbol
use Rattle.zint_draw.specs.declared.symbologies.code128.Code128Symbol.{Code128Symbol}
use Rattle.zint_draw.specs.declared.symbologies.rune.RuneSymbol.{RuneSymbol}
use Rattle.zint_draw.specs.symbologies.{draws_as, draws_in}
use Rattle.zint_draw.specs.symbologies.Aztec.{draws_aztec, draws_elements, elements_for}
use Rattle.zint_draw.specs.symbologies.Code128.{draws128, draws_values, elements128, kind128}
use Rattle.zint_draw.specs.symbologies.Code39.{draws39, draws39_full}
use Rattle.zint_draw.specs.symbologies.Code93.{draws93}
use Rattle.zint_draw.specs.symbologies.FourState.{draws_four_state}
use Rattle.zint_draw.specs.symbologies.Itf14.{draws14}
use Rattle.zint_draw.specs.symbologies.Rune.{draws_rune, draws_value, rune_value}
use Rattle.zint_draw.proofs.OneMessage.{data_one, message_one, whole_message_one}
use Rattle.bar_base.proofs.OneStep.{IsOne, only_one, then_one}
use Rattle.zint_answers.proofs.OneStep.{answered_one}

-- Elements have one Aztec symbol, or one refusal.
aztec_one : (request : DrawingRequest) (elements : List Element) → IsOne (draws_elements request elements)
aztec_one request elements (Ok (symbol.Aztec s)) (Ok (symbol.Aztec t)) p q =
    ap (λ (x : AztecSymbol). Ok (symbol.Aztec x)) (aztec_symbol_once (is_some request.append) elements (allowed_of request.options.share request.options.version) s t p q)
aztec_one request elements (Ok (symbol.Aztec s)) (Err (NoFit m)) p q =
    absurd (symbol_or_none (is_some request.append) elements (allowed_of request.options.share request.options.version) s m p q)
aztec_one request elements (Err (NoFit m)) (Ok (symbol.Aztec t)) p q =
    absurd (symbol_or_none (is_some request.append) elements (allowed_of request.options.share request.options.version) t m q p)
aztec_one request elements (Err (NoFit m)) (Err (NoFit n)) p q =
    ap (λ (x : Misfit). Err (NoFit x)) (no_symbol_once (is_some request.append) elements (allowed_of request.options.share request.options.version) m n p q)
aztec_one request elements (Ok (symbol.Aztec s)) other p q = absurd q
aztec_one request elements (Err (NoFit m)) other p q = absurd q
aztec_one request elements one other p q = absurd p

abbrev rune_with : List ℕ → Picture → RuneSymbol
rune_with words grid = record { words = words; grid = grid }

same_rune : (value : ℕ) (s t : RuneSymbol) → IsRuneMessage value s.words → IsRune value s.grid → IsRuneMessage value t.words → IsRune value t.grid → s ≡ t
same_rune value s t words grid words' grid' =
    ap (λ (ws : List ℕ). rune_with ws s.grid) (rune_message_once value s.words t.words words words')
    ∙ ap (λ (g : Picture). rune_with t.words g)
    (rune_picture_once value t.words s.grid t.grid (λ others is. rune_message_once value others t.words is words') grid grid')

-- A value has one rune.
value_one : (value : ℕ) → IsOne (draws_value value)
value_one value (Ok (symbol.Rune s)) (Ok (symbol.Rune t)) p q = ap (λ (x : RuneSymbol). Ok (symbol.Rune x)) (same_rune value s t p.0 p.1 q.0 q.1)
value_one value (Ok (symbol.Rune s)) other p q = absurd q
value_one value one other p q = absurd p

abbrev code128_with : Symbology → List ℕ → Picture → Code128Symbol
code128_with is values grid = record { symbology = is; values = values; grid = grid }

-- Elements have one symbol of Code 128.
values_one : (is : Symbology) (elements : List Element) → IsOne (draws_values is elements)
values_one is elements (Ok (symbol.Code128 s)) (Ok (symbol.Code128 t)) p q =
    let values : s.values ≡ t.values = drawn_once elements t.values s.values q.1 p.1 in
    let grid : s.grid ≡ t.grid = p.2 ∙ ap (λ (vs : List ℕ). row_picture (symbol_widths128 vs)) values ∙ sym q.2 in
    ap (λ (x : Code128Symbol). Ok (symbol.Code128 x))
    (ap (λ (x : Symbology). code128_with x s.values s.grid) (p.0 ∙ sym q.0) ∙ ap (λ (vs : List ℕ). code128_with t.symbology vs s.grid) values
    ∙ ap (λ (g : Picture). code128_with t.symbology t.values g) grid)
values_one is elements (Ok (symbol.Code128 s)) other p q = absurd q
values_one is elements one other p q = absurd p

-- Each symbology has one answer to data.
draws_aztec_one : (request : DrawingRequest) (bytes : List ℕ) → IsOne (draws_aztec request bytes)
unfolding draws_aztec elements_for
draws_aztec_one request bytes =
    then_one _ _ (then_one _ _ (whole_message_one request bytes) (λ message. only_one _)) (λ elements. aztec_one request elements)

draws_rune_one : (bytes : List ℕ) → IsOne (draws_rune bytes)
unfolding draws_rune
draws_rune_one bytes = then_one _ _ (only_one (rune_value bytes)) value_one

draws128_one : (options : DrawingOptions) (bytes : List ℕ) → IsOne (draws128 options bytes)
unfolding draws128 elements128
draws128_one options bytes =
    then_one _ _ (then_one _ _ (message_one (kind128 options) bytes) (λ message. only_one _)) (λ elements. values_one options.symbology elements)

draws39_one : (options : DrawingOptions) (bytes : List ℕ) → IsOne (draws39 options bytes)
unfolding draws39
draws39_one options bytes = then_one _ _ (answered_one _ (code39_of bytes (is_some options.version))) (λ drawn. only_one _)

draws39_full_one : (bytes : List ℕ) → IsOne (draws39_full bytes)
unfolding draws39_full
draws39_full_one bytes = then_one _ _ (answered_one _ (code39_full_of bytes)) (λ drawn. only_one _)

draws93_one : (bytes : List ℕ) → IsOne (draws93 bytes)
unfolding draws93
draws93_one bytes = then_one _ _ (answered_one _ (code93_of bytes)) (λ drawn. only_one _)

draws14_one : (bytes : List ℕ) → IsOne (draws14 bytes)
unfolding draws14
draws14_one bytes = then_one _ _ (answered_one _ (itf14_of bytes)) (λ drawn. only_one _)

draws_four_state_one : (bytes : List ℕ) → IsOne (draws_four_state bytes)
unfolding draws_four_state
draws_four_state_one bytes = then_one _ _ (answered_one _ (rm4scc_of bytes)) (λ drawn. only_one _)

draws_in_one : (is : Symbology) (request : DrawingRequest) (bytes : List ℕ) → IsOne (draws_in is request bytes)
draws_in_one symbology.Aztec request bytes = draws_aztec_one request bytes
draws_in_one symbology.AztecRune request bytes = draws_rune_one bytes
draws_in_one symbology.Code39 request bytes = draws39_one request.options bytes
draws_in_one symbology.ExtendedCode39 request bytes = draws39_full_one bytes
draws_in_one symbology.Code93 request bytes = draws93_one bytes
draws_in_one symbology.Itf14 request bytes = draws14_one bytes
draws_in_one symbology.Rm4scc request bytes = draws_four_state_one bytes
draws_in_one symbology.Code128 request bytes = draws128_one request.options bytes
draws_in_one symbology.Gs1Code128 request bytes = draws128_one request.options bytes

-- Data has one symbol in the symbology that is asked for, or one refusal.
pub draws_as_one : (request : DrawingRequest) (bytes : List ℕ) → IsOne (draws_as request bytes)
unfolding draws_as
draws_as_one request bytes = draws_in_one request.options.symbology request bytes

-- Two answers to the same content are the same.
pub draws_one : (request : DrawingRequest) (raw : List ℕ) → IsOne (draws request raw)
unfolding draws
draws_one request raw =
    then_one _ _ (only_one (within_bytes request.segments raw))
    (λ whole. then_one _ _ (data_one request.options.escapes whole)
    (λ bytes. then_one _ _ (only_one (not_empty bytes)) (λ some. draws_as_one request some)))
