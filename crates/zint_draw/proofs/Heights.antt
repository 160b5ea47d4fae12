-- Every symbol that is drawn is low.
use Rattle.std.proofs.Common.{◌≡◌, ◌≤◌, ◌+◌, ℕ, zero, suc, Bool, List, [], ◌∷◌, Result, Ok, Err, IfOk, replicate, sum, ap, sym, subst, ◌∙◌, refl, arith}
use Rattle.std.specs.List.{fold}
use Rattle.bar_base.specs.Paint.{modules_high}
use Rattle.bar_base.specs.Picture.{Picture, with_height}
use Rattle.bar_base.specs.Results.{◌>>=◌}
use Rattle.bar_base.specs.Stripes.{row_picture}
use Rattle.bar_base.specs.Text.{values_of_text}
use Rattle.bar_base.specs.declared.element.Element.{Element}
use Rattle.bar_base.specs.declared.linear.Linear.{Linear}
use Rattle.bar_base.specs.declared.linear.LinearFault.{LinearFault}
use Rattle.aztec_layout.specs.Sizes.{side_of}
use Rattle.aztec_layout.specs.SymbolGrid.{IsSquare}
use Rattle.aztec_layout.proofs.SizeLemmas.{side_few}
use Rattle.linear_codes.specs.Code39.{checks39, code39_full_of, code39_of, symbol39, values39, values39_full}
use Rattle.linear_codes.specs.Code93.{code93_of, symbol93, values93}
use Rattle.linear_codes.specs.Itf14.{digit_values, itf14_of, symbol14, thirteen}
use Rattle.linear_codes.specs.declared.code39_symbol.TheConstants.{CODE39_MOST_BYTES}
use Rattle.linear_codes.specs.declared.code93_symbol.TheConstants.{CODE93_MOST_BYTES}
use Rattle.linear_codes.specs.declared.itf14_symbol.TheConstants.{ITF14_MOST_DIGITS}
use Rattle.four_state.specs.FourState.{indices_of, rm4scc_of, rm4scc_picture, rm4scc_symbol}
use Rattle.four_state.specs.declared.symbol.TheConstants.{RM4SCC_MOST_BYTES}
use Rattle.bar_base.specs.Steps.{only}
use Rattle.zint_answers.specs.declared.refusal.Refusal.{Refusal}
use Rattle.zint_answers.specs.Steps.{MayAnswer}
use Rattle.zint_answers.specs.declared.fault.Fault.{Fault}
use Rattle.zint_settings.specs.Settings.{DrawingRequest}
use Rattle.zint_settings.specs.declared.symbology.Symbology.{Symbology}
use Rattle.zint_settings.specs.declared.symbology.Symbology.TheVariants as symbology
use Rattle.zint_draw.specs.Drawing.{draws}
use Rattle.zint_draw.specs.Height.{IsLowSymbol}
use Rattle.zint_draw.specs.declared.symbologies.Symbol.{Symbol}
use Rattle.zint_draw.specs.declared.symbologies.Symbol.TheVariants as symbol
use Rattle.zint_draw.specs.symbologies.{draws_as, draws_in}
use Rattle.zint_draw.specs.symbologies.Aztec as aztec
use Rattle.zint_draw.specs.symbologies.Code128 as code128
use Rattle.zint_draw.specs.symbologies.Code39.{draws39, draws39_full}
use Rattle.zint_draw.specs.symbologies.Code93.{draws93}
use Rattle.zint_draw.specs.symbologies.FourState.{draws_four_state}
use Rattle.zint_draw.specs.symbologies.Itf14.{draws14}
use Rattle.zint_draw.specs.symbologies.Rune as rune

fold_ones : (n a : ℕ) → fold ◌+◌ a (replicate n 1) ≡ a + n
fold_ones zero a = omega arith
fold_ones (suc n) a = fold_ones n (a + 1) ∙ omega arith

sum_ones : (n : ℕ) → sum (replicate n 1) ≡ n
sum_ones n = fold_ones n 0 ∙ omega arith

-- a square picture is as high as its side is long
square_low : (side : ℕ) (picture : Picture) → IsSquare side picture → side ≤ 200 → modules_high picture ≤ 200
unfolding modules_high
square_low side picture square few = rw (square.heights, sum_ones side) few

-- a picture of one row is as high as the row
row_low : (picture : Picture) → picture.heights ≡ 1 ∷ [] → (height : ℕ) → height ≤ 200 → modules_high (with_height picture 0 height) ≤ 200
unfolding modules_high
row_low picture one height within = rw one (omega (arith, within))

-- a value of two steps is one of the second step, which refuses nothing
on_value : {A B E : Type 0} (given : Result A E) (f : A → B) (drawn : B) → (given >>= (λ value. Ok (f value))) ≡ Ok drawn → (value : A) × (f value ≡ drawn)
on_value (Ok value) f drawn is = (value, cc)
on_value (Err fault) f drawn is = cc

one_row39 : (values checks : List ℕ) → (symbol39 values checks).grid.heights ≡ 1 ∷ []
unfolding symbol39 row_picture
one_row39 values checks = refl

row39 : (text : List ℕ) (check : Bool) (drawn : Linear) → code39_of text check ≡ Ok drawn → drawn.grid.heights ≡ 1 ∷ []
unfolding code39_of
row39 text check drawn is =
    let (values, same) = on_value (values_of_text values39 CODE39_MOST_BYTES text) (λ values. symbol39 values (checks39 values check)) drawn is in
    ap (λ (s : Linear). s.grid.heights) (sym same) ∙ one_row39 values (checks39 values check)

row39_full : (text : List ℕ) (drawn : Linear) → code39_full_of text ≡ Ok drawn → drawn.grid.heights ≡ 1 ∷ []
unfolding code39_full_of
row39_full text drawn is =
    let (values, same) = on_value (values_of_text values39_full CODE39_MOST_BYTES text) (λ values. symbol39 values []) drawn is in
    ap (λ (s : Linear). s.grid.heights) (sym same) ∙ one_row39 values []

one_row93 : (values : List ℕ) → (symbol93 values).grid.heights ≡ 1 ∷ []
unfolding symbol93 row_picture
one_row93 values = refl

row93 : (text : List ℕ) (drawn : Linear) → code93_of text ≡ Ok drawn → drawn.grid.heights ≡ 1 ∷ []
unfolding code93_of
row93 text drawn is =
    let (values, same) = on_value (values_of_text values93 CODE93_MOST_BYTES text) symbol93 drawn is in
    ap (λ (s : Linear). s.grid.heights) (sym same) ∙ one_row93 values

one_row14 : (digits : List ℕ) → (symbol14 digits).grid.heights ≡ 1 ∷ []
unfolding symbol14 row_picture
one_row14 digits = refl

row14_behind : (digits : Result (List ℕ) LinearFault) (drawn : Linear)
    → (digits >>= (λ digits. thirteen digits >>= (λ front. Ok (symbol14 front)))) ≡ Ok drawn → drawn.grid.heights ≡ 1 ∷ []
row14_behind (Ok digits) drawn is =
    let (front, same) = on_value (thirteen digits) symbol14 drawn is in
    ap (λ (s : Linear). s.grid.heights) (sym same) ∙ one_row14 front
row14_behind (Err fault) drawn is = cc

row14 : (text : List ℕ) (drawn : Linear) → itf14_of text ≡ Ok drawn → drawn.grid.heights ≡ 1 ∷ []
unfolding itf14_of
row14 text drawn is = row14_behind (values_of_text digit_values ITF14_MOST_DIGITS text) drawn is

-- the three rows of the four-state symbol have 8 modules
four_state_high : (indices : List ℕ) → modules_high (rm4scc_symbol indices).grid ≡ 8
unfolding modules_high rm4scc_symbol rm4scc_picture
four_state_high indices = refl

four_state_low : (text : List ℕ) (drawn : Linear) → rm4scc_of text ≡ Ok drawn → modules_high drawn.grid ≤ 200
unfolding rm4scc_of
four_state_low text drawn is =
    let (indices, same) = on_value (values_of_text indices_of RM4SCC_MOST_BYTES text) rm4scc_symbol drawn is in
    rw (sym same, four_state_high indices) (omega arith)

one_row : (widths : List ℕ) → (row_picture widths).heights ≡ 1 ∷ []
unfolding row_picture
one_row widths = refl

aztec_low : (request : DrawingRequest) (elements : List Element) (drawn : Symbol) → aztec.draws_elements request elements (Ok drawn) → IsLowSymbol drawn
aztec_low request elements (symbol.Aztec s) is = λ height within.
    square_low (side_of s.size) s.grid is.symbol_of.grid.shown.square (omega (arith, side_few s.size s.sized))
aztec_low request elements (symbol.Rune s) is = absurd is
aztec_low request elements (symbol.Code128 s) is = absurd is
aztec_low request elements (symbol.Linear named s) is = absurd is
aztec_low request elements (symbol.FourState s) is = absurd is

rune_low : (value : ℕ) (drawn : Symbol) → rune.draws_value value (Ok drawn) → IsLowSymbol drawn
rune_low value (symbol.Rune s) (words, is) = λ height within. square_low 11 s.grid is.square (omega arith)
rune_low value (symbol.Aztec s) is = absurd is
rune_low value (symbol.Code128 s) is = absurd is
rune_low value (symbol.Linear named s) is = absurd is
rune_low value (symbol.FourState s) is = absurd is

code128_low : (named : Symbology) (elements : List Element) (drawn : Symbol) → code128.draws_values named elements (Ok drawn) → IsLowSymbol drawn
code128_low named elements (symbol.Code128 s) (same, values, row) =
    row_low s.grid (ap (λ (picture : Picture). picture.heights) row ∙ one_row _)
code128_low named elements (symbol.Aztec s) is = absurd is
code128_low named elements (symbol.Rune s) is = absurd is
code128_low named elements (symbol.Linear other s) is = absurd is
code128_low named elements (symbol.FourState s) is = absurd is

-- a symbol of one row
linear_low : (named : Symbology) (s : Linear) (drawn : Symbol) → only {E = Refusal} (Ok (symbol.Linear named s)) (Ok drawn) → s.grid.heights ≡ 1 ∷ [] → IsLowSymbol drawn
linear_low named s drawn is one =
    let same : drawn ≡ symbol.Linear named s = cc in
    subst IsLowSymbol (sym same) (row_low s.grid one)

low_in : (named : Symbology) (request : DrawingRequest) (bytes : List ℕ) (drawn : Symbol) → draws_in named request bytes (Ok drawn) → IsLowSymbol drawn
unfolding aztec.draws_aztec rune.draws_rune code128.draws128 draws39 draws39_full draws93 draws14 draws_four_state
low_in symbology.Aztec request bytes drawn (elements, are, is) = aztec_low request elements drawn is
low_in symbology.AztecRune request bytes drawn (value, are, is) = rune_low value drawn is
low_in symbology.Code128 request bytes drawn (elements, are, is) = code128_low _ elements drawn is
low_in symbology.Gs1Code128 request bytes drawn (elements, are, is) = code128_low _ elements drawn is
low_in symbology.Code39 request bytes drawn (s, given, is) = linear_low _ s drawn is (row39 bytes _ s given)
low_in symbology.ExtendedCode39 request bytes drawn (s, given, is) = linear_low _ s drawn is (row39_full bytes s given)
low_in symbology.Code93 request bytes drawn (s, given, is) = linear_low _ s drawn is (row93 bytes s given)
low_in symbology.Itf14 request bytes drawn (s, given, is) = linear_low _ s drawn is (row14 bytes s given)
low_in symbology.Rm4scc request bytes drawn (s, given, is) =
    let same : drawn ≡ symbol.FourState s = cc in
    subst IsLowSymbol (sym same) (λ height within. four_state_low bytes s given)

drawn_low : (request : DrawingRequest) (raw : List ℕ) (drawn : Symbol) → draws request raw (Ok drawn) → IsLowSymbol drawn
unfolding draws draws_as
drawn_low request raw drawn (whole, within, (bytes, is_data, (some, some_is, is))) = low_in request.options.symbology request some drawn is

-- whatever a drawing answers, a symbol is low
pub answer_low : (request : DrawingRequest) (raw : List ℕ) (result : Result Symbol Fault) → MayAnswer (λ drawn. drawn) result (draws request raw) → IfOk result IsLowSymbol
answer_low request raw (Ok drawn) gives = drawn_low request raw drawn gives
answer_low request raw (Err fault) gives = tt
