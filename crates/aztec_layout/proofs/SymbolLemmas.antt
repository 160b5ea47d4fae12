-- A picture is told by its side and its dark modules.
use Rattle.std.proofs.Common.{◌≡◌, ℕ, ◌+◌, ◌*◌, ◌/◌, ◌%◌, ◌<◌, Bool, true, false, List, [], ◌∷◌, Some, length, suc, refl, ap, subst, sym, ◌∙◌, arith}
use Rattle.std.specs.Prelude.{◌↔◌, slice_get}
use Rattle.std.proofs.lemmas.Nat.{div-add-mod', div_below, mod_below}
use Rattle.bar_base.specs.Picture.{Picture, module_at}
use Rattle.aztec_layout.specs.declared.sizes.Size.{Size}
use Rattle.aztec_layout.specs.ModeMessage.{IsModeMessage}
use Rattle.aztec_layout.specs.Rune.{IsDarkInRune, IsRune, IsRuneMessage}
use Rattle.aztec_layout.specs.Sizes.{side_of}
use Rattle.aztec_layout.specs.SymbolGrid.{IsDark, IsSquare, IsSymbolGrid}
use Rattle.aztec_layout.proofs.SizeParts.{size_at}

-- lists of one length that are true at the same places are one list
same_dark : (xs ys : List Bool) → length xs ≡ length ys →
    ((t : ℕ) → t < length xs → (slice_get xs t ≡ Some true) ↔ (slice_get ys t ≡ Some true)) → xs ≡ ys
same_dark [] [] lengths each = refl
same_dark [] (y ∷ ys) lengths each = absurd (omega arith)
same_dark (x ∷ xs) [] lengths each = absurd (omega arith)
same_dark (x ∷ xs) (y ∷ ys) lengths each =
    let first : (Some x ≡ Some true) ↔ (Some y ≡ Some true) = each 0 (omega arith) in
    let rest : xs ≡ ys = same_dark xs ys (omega arith) (λ t inside. each (suc t) (omega arith)) in
    ap (λ (b : Bool). b ∷ xs) (same_bit x y first.0 first.1) ∙ ap (λ (bs : List Bool). y ∷ bs) rest
  where
    same_bit : (a b : Bool) → (Some a ≡ Some true → Some b ≡ Some true) → (Some b ≡ Some true → Some a ≡ Some true) → a ≡ b
    same_bit true true to from = refl
    same_bit false false to from = refl
    same_bit true false to from = let wrong : Some false ≡ Some true = to refl in cc
    same_bit false true to from = let wrong : Some false ≡ Some true = from refl in cc

abbrev picture_of : ℕ → List ℕ → List Bool → Picture
picture_of w hs ms = record { width = w; heights = hs; modules = ms }

-- two square pictures of one side with the same dark modules are one picture
pub same_picture : (side : ℕ) (g h : Picture) → 0 < side → IsSquare side g → IsSquare side h →
    ((x y : ℕ) → x < side → y < side → (module_at g x y ≡ Some true) ↔ (module_at h x y ≡ Some true)) → g ≡ h
same_picture side g h some square-g square-h same =
    let modules : g.modules ≡ h.modules = same_dark g.modules h.modules (square-g.whole ∙ sym square-h.whole) (λ t inside. at t (subst (λ (n : ℕ). t < n) square-g.whole inside)) in
    ap (λ (w : ℕ). picture_of w g.heights g.modules) (square-g.width ∙ sym square-h.width)
    ∙ ap (λ (hs : List ℕ). picture_of h.width hs g.modules) (square-g.heights ∙ sym square-h.heights)
    ∙ ap (λ (ms : List Bool). picture_of h.width h.heights ms) modules
  where
    at : (t : ℕ) → t < side * side → (slice_get g.modules t ≡ Some true) ↔ (slice_get h.modules t ≡ Some true)
    at t inside =
        let place : t / side * side + t % side ≡ t = div-add-mod' t side in
        let in-g : t / side * g.width + t % side ≡ t = ap (λ (w : ℕ). t / side * w + t % side) square-g.width ∙ place in
        let in-h : t / side * h.width + t % side ≡ t = ap (λ (w : ℕ). t / side * w + t % side) square-h.width ∙ place in
        let both : (module_at g (t % side) (t / side) ≡ Some true) ↔ (module_at h (t % side) (t / side) ≡ Some true) =
        same (t % side) (t / side) (mod_below t side some) (div_below t side side some inside) in (
          (λ d. ap (slice_get h.modules) (sym in-h) ∙ both.0 (ap (slice_get g.modules) in-g ∙ d)),
          (λ d. ap (slice_get g.modules) (sym in-g) ∙ both.1 (ap (slice_get h.modules) in-h ∙ d)),
        )

side_some : (f : Bool) (layers : ℕ) → 0 < side_of (size_at f layers)
side_some true layers = omega arith
side_some false layers = omega arith

-- a symbol has one picture
pub symbol_once : (s : Size) (held : ℕ) (words modes : List ℕ) (g h : Picture) → ((others : List ℕ) → IsModeMessage s held others → others ≡ modes) →
    IsSymbolGrid s held words g → IsSymbolGrid s held words h → g ≡ h
symbol_once s held words modes g h only p q =
    let same : p.modes ≡ q.modes = only p.modes p.message ∙ sym (only q.modes q.message) in
    same_picture (side_of s) g h (side_some s.full s.layers) p.shown.square q.shown.square
    (λ x y in_x in_y. (
      (λ d. (q.shown.dark x y in_x in_y).1 (subst (λ (ms : List ℕ). IsDark s ms words x y) same ((p.shown.dark x y in_x in_y).0 d))),
      (λ d. (p.shown.dark x y in_x in_y).1 (subst (λ (ms : List ℕ). IsDark s ms words x y) (sym same) ((q.shown.dark x y in_x in_y).0 d))),
    ))

-- a rune has one picture
pub rune_picture_once : (value : ℕ) (words : List ℕ) (g h : Picture) → ((others : List ℕ) → IsRuneMessage value others → others ≡ words) →
    IsRune value g → IsRune value h → g ≡ h
rune_picture_once value words g h only p q =
    let same : p.words ≡ q.words = only p.words p.message ∙ sym (only q.words q.message) in
    same_picture 11 g h (omega arith) p.square q.square
    (λ x y in_x in_y. (
      (λ d. (q.dark x y in_x in_y).1 (subst (λ (ws : List ℕ). IsDarkInRune ws x y) same ((p.dark x y in_x in_y).0 d))),
      (λ d. (p.dark x y in_x in_y).1 (subst (λ (ws : List ℕ). IsDarkInRune ws x y) (sym same) ((q.dark x y in_x in_y).0 d))),
    ))
