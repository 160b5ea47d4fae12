-- A number has one demonstration.
use Rattle.std.proofs.Common.{◌≡◌, ◌⊎◌, ◌<◌, ℕ, Bool, true, false, List, [], ◌++◌, Option, Some, None, length, take, refl, sym, ap, subst, ◌∙◌, inl, inr, arith}
use Rattle.std.specs.Prelude.{Result, Ok, Err, codes}
use Rattle.std.proofs.lemmas.List.{length-replicate}
use Rattle.bar_base.specs.GridText.{grid_text}
use Rattle.bar_base.specs.Picture.{Picture, module_at, row_count}
use Rattle.aztec_modes.specs.Entry.{bytes_as_elements}
use Rattle.aztec_layout.specs.Allowed.{allowed_of}
use Rattle.aztec_layout.specs.Sizes.{side_of}
use Rattle.aztec_layout.specs.declared.sizes.Size.{Size}
use Rattle.aztec_layout.specs.SymbolGrid.{IsSquare}
use Rattle.aztec_layout.proofs.SymbolLemmas.{same_picture}
use Rattle.aztec_draw.specs.declared.symbol.AztecSymbol.{AztecSymbol}
use Rattle.aztec_draw.proofs.OneSymbol.{aztec_symbol_once}
use Rattle.bar_base.specs.Steps.{◌>>=◌, only}
use Rattle.zint_answers.specs.declared.refusal.Refusal.{Refusal}
use Rattle.bar_base.proofs.OneStep.{IsOne, only_one, then_one, value_of}
use Rattle.zint_demo.specs.Damage.{IsDamaged, IsTurned}
use Rattle.zint_demo.specs.Demonstration.{adds_line, demonstrates, demonstrates_text, draws_bytes, demonstration_line, shows_last_symbol}
use Rattle.zint_demo.specs.Text.{demonstration_text}
use Rattle.zint_demo.specs.declared.demonstration.Demonstration.{Demonstration}
use Rattle.zint_demo.proofs.DrawnNear.{side_odd}
use Rattle.zint_demo.proofs.NoRefusals.{not_refused}

-- bytes have one symbol, and so one line behind the lines
draws_bytes_one : (bytes : List ℕ) → IsOne (draws_bytes bytes)
draws_bytes_one bytes (Ok s) (Ok t) p q = ap Ok (aztec_symbol_once false (bytes_as_elements bytes) (allowed_of 23 None) s t p q)
draws_bytes_one bytes (Ok s) (Err refusal) p q = absurd q
draws_bytes_one bytes (Err refusal) other p q = absurd p

adds_line_one : (lines text : List ℕ) (count : ℕ) → IsOne (adds_line lines text count)
unfolding adds_line
adds_line_one lines text count = then_one _ _ (draws_bytes_one (take count text)) (λ symbol. only_one _)

-- the value that was given, by one that stands for a refusal
same_value : {A : Type 0} (one other : Result A Refusal) (x y : A) → one ≡ Ok x → other ≡ Ok y → one ≡ other → x ≡ y
same_value one other x y is_x is_y same = ap (value_of x) (sym is_x ∙ same ∙ is_y)

line_once : (lines text : List ℕ) (count : ℕ) (x y : List ℕ) → adds_line lines text count (Ok x) → adds_line lines text count (Ok y) → x ≡ y
line_once lines text count x y p q = same_value (Ok x) (Ok y) x y refl refl (adds_line_one lines text count (Ok x) (Ok y) p q)

side_some : (s : Size) → 0 < side_of s
side_some s = omega (arith, side_odd s)

-- two modules are the same or not
same_or_not : (m n : Option Bool) → (m ≡ n) ⊎ (m ≡ n → ⊥)
same_or_not None None = inl refl
same_or_not None (Some b) = inr (λ e. cc)
same_or_not (Some a) None = inr (λ e. cc)
same_or_not (Some true) (Some true) = inl refl
same_or_not (Some false) (Some false) = inl refl
same_or_not (Some true) (Some false) = inr (λ e. cc)
same_or_not (Some false) (Some true) = inr (λ e. cc)

-- a square picture with some modules turned is one
turned_once : (side : ℕ) (old a b : Picture) (P : ℕ → ℕ → Type 0) → 0 < side → IsSquare side old → IsTurned old a P → IsTurned old b P → a ≡ b
turned_once side old a b P some square turned-a turned-b =
    same_picture side a b some (squared a turned-a) (squared b turned-b)
    (λ x y x-in y-in. let e = module_once x y x-in y-in in ((λ dark. sym e ∙ dark), (λ dark. e ∙ dark)))
  where
    squared : (c : Picture) → IsTurned old c P → IsSquare side c
    squared c turned = record {
      width = turned.width ∙ square.width;
      heights = turned.heights ∙ square.heights;
      whole = turned.whole ∙ square.whole;
    }

    tall : row_count old ≡ side
    tall = ap length square.heights ∙ length-replicate side 1

    module_once : (x y : ℕ) → x < side → y < side → module_at a x y ≡ module_at b x y
    module_once x y x-in y-in = decide (same_or_not (module_at a x y) (module_at b x y))
      where
        x-there : x < old.width
        x-there = omega (arith, square.width, x-in)

        y-there : y < row_count old
        y-there = omega (arith, tall, y-in)

        decide : (module_at a x y ≡ module_at b x y) ⊎ (module_at a x y ≡ module_at b x y → ⊥) → module_at a x y ≡ module_at b x y
        decide (inl same) = same
        decide (inr apart) =
            let elsewhere : P x y → ⊥ = λ there. apart (turned-a.turned x y x-there y-there there ∙ sym (turned-b.turned x y x-there y-there there)) in
            turned-a.kept x y x-there y-there elsewhere ∙ sym (turned-b.kept x y x-there y-there elsewhere)

-- What two demonstrations show is the same.
record ShowsSame (one other : Demonstration) : Type 0 where
  lines : one.lines.items ≡ other.lines.items
  grid : one.grid ≡ other.grid

last_once : (lines text : List ℕ) (one other : Demonstration) → shows_last_symbol lines text (Ok one) → shows_last_symbol lines text (Ok other) → ShowsSame one other
unfolding shows_last_symbol
last_once lines text one other (s, drawn, (lines_are, damaged)) (t, drawn', (lines_are', damaged')) =
    let same : s ≡ t = same_value (Ok s) (Ok t) s t refl refl (draws_bytes_one text (Ok s) (Ok t) drawn drawn') in
    let damaged_here : IsDamaged s.size s.held s.grid other.grid =
    subst (λ (z : AztecSymbol). IsDamaged z.size z.held z.grid other.grid) (sym same) damaged' in
    record {
      lines = lines_are ∙ ap (λ (z : AztecSymbol). lines ++ demonstration_line 1500 z ++ codes "grid:\n") same ∙ sym lines_are';
      grid = turned_once (side_of s.size) s.grid one.grid other.grid _ (side_some s.size) drawn.symbol_of.grid.shown.square damaged damaged_here;
    }

demonstrates_same : (text : List ℕ) (a b : Demonstration) → demonstrates_text text (Ok a) → demonstrates_text text (Ok b) → ShowsSame a b
unfolding demonstrates_text
demonstrates_same text a b (one, p1, (ten, p2, (hundred, p3, (lines, p4, last)))) (one', q1, (ten', q2, (hundred', q3, (lines', q4, last')))) =
    let e1 = line_once [] text 1 one one' p1 q1 in
    let e2 = line_once one' text 10 ten ten' (subst (λ (l : List ℕ). adds_line l text 10 (Ok ten)) e1 p2) q2 in
    let e3 = line_once ten' text 100 hundred hundred' (subst (λ (l : List ℕ). adds_line l text 100 (Ok hundred)) e2 p3) q3 in
    let e4 = line_once hundred' text 500 lines lines' (subst (λ (l : List ℕ). adds_line l text 500 (Ok lines)) e3 p4) q4 in
    last_once lines' text a b (subst (λ (l : List ℕ). shows_last_symbol l text (Ok a)) e4 last) last'

-- Two texts of the demonstration of a number are the same: the lines, and the text of the grid.
abbrev pub shown_text : Demonstration → List ℕ
shown_text shown = shown.lines.items ++ grid_text shown.grid

pub demonstrated_one : (number : ℕ) → IsOne (demonstrates number >>= (λ shown. only (Ok (shown_text shown))))
demonstrated_one number (Ok v) (Ok w) (x, is_x, is_v) (y, is_y, is_w) =
    let same = demonstrates_same (demonstration_text number) x y is_x is_y in
    is_v
    ∙ ap Ok (ap (λ (l : List ℕ). l ++ grid_text x.grid) same.lines ∙ ap (λ (g : Picture). y.lines.items ++ grid_text g) same.grid)
    ∙ sym is_w
demonstrated_one number (Ok v) (Err s) shown (inl refused) = absurd (not_refused (demonstration_text number) s refused)
demonstrated_one number (Ok v) (Err s) shown (inr (y, is_y, is)) = cc
demonstrated_one number (Err r) other (inl refused) answer = absurd (not_refused (demonstration_text number) r refused)
demonstrated_one number (Err r) other (inr (x, is_x, is)) answer = cc
