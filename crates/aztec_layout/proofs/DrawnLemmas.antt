-- From what was drawn step by step to the picture of a symbol or of a rune.
use Rattle.std.proofs.Common.{◌≡◌, ℕ, ◌+◌, ◌*◌, ◌/◌, ◌%◌, ◌<◌, ◌⊎◌, Bool, true, false, List, [], ◌∷◌, Some, length, zero, suc, refl, ap, subst, sym, ◌∙◌, inr, ⊎_elim}
use Rattle.std.specs.Prelude.{◌↔◌, IsTrue, replicate, slice_get}
use Rattle.std.proofs.lemmas.List.{length-replicate}
use Rattle.bar_base.specs.Picture.{Picture, light, module_at}
use Rattle.aztec_layout.specs.declared.sizes.Size.{Size}
use Rattle.aztec_layout.specs.Core.{is_dark_fixed}
use Rattle.galois.specs.CheckNumbers.{IsContinuation, polynomial_of}
use Rattle.aztec_layout.specs.ModeMessage.{IsModeMessage, word_bits}
use Rattle.aztec_layout.specs.Painting.{Paints}
use Rattle.aztec_layout.specs.Places.{centre_of}
use Rattle.aztec_layout.specs.Rune.{IsRune, IsRuneMessage, masked}
use Rattle.aztec_layout.specs.Sizes.{side_of}
use Rattle.aztec_layout.specs.SymbolGrid.{IsDark, IsDataDot, IsModeDot, IsSquare, IsSymbolGrid, data_bits}
use Rattle.aztec_layout.proofs.BitLemmas.{word_bits_two}
use Rattle.aztec_layout.proofs.ModeLemmas.{continued_once}
use Rattle.aztec_layout.proofs.PaintingLemmas.{paints_both}

-- no module of a light picture is dark
light_at : (n k : ℕ) → slice_get (replicate n false) k ≡ Some true → ⊥
light_at zero k e = cc
light_at (suc n) zero e = cc
light_at (suc n) (suc k) e = light_at n k e

-- what was drawn on a light picture is what is dark
pub painted_square : (side : ℕ) (g : Picture) (P : ℕ → ℕ → Type 0) → Paints (light side side) g P → IsSquare side g
painted_square side g P p = record {
  width = p.width;
  heights = p.heights;
  whole = p.whole ∙ length-replicate (side * side) false;
}

pub painted_dark : (side : ℕ) (g : Picture) (P : ℕ → ℕ → Type 0) → Paints (light side side) g P →
    (x y : ℕ) → x < side → y < side → (module_at g x y ≡ Some true) ↔ P x y
painted_dark side g P p x y in_x in_y =
    let in_y' : y < length (replicate side 1) = subst (λ (n : ℕ). y < n) (sym (length-replicate side 1)) in_y in (
      λ d. ⊎_elim (λ old. absurd (light_at (side * side) (y * side + x) old)) (λ q. q) ((p.dark x y in_x in_y').0 d),
      λ q. (p.dark x y in_x in_y').1 (inr q),
    )

-- the fixed modules, the mode message and the data, one on the other
pub drawn_symbol : (s : Size) (held : ℕ) (modes words : List ℕ) (mode_row data_row : List Bool) (g h k : Picture) → IsModeMessage s held modes →
    mode_row ≡ word_bits 4 modes → data_row ≡ data_bits s words →
    Paints (light (side_of s) (side_of s)) g (λ x y. IsTrue (is_dark_fixed s.full (centre_of s) x y)) →
    Paints g h (IsModeDot s.full (centre_of s) mode_row) → Paints h k (IsDataDot s data_row) → IsSymbolGrid s held words k
drawn_symbol s held modes words mode_row data_row g h k message is-mode is-data fixed mode data_ =
    let mode' : Paints g h (IsModeDot s.full (centre_of s) (word_bits 4 modes)) =
    subst (λ (row : List Bool). Paints g h (IsModeDot s.full (centre_of s) row)) is-mode mode in
    let data' : Paints h k (IsDataDot s (data_bits s words)) = subst (λ (row : List Bool). Paints h k (IsDataDot s row)) is-data data_ in
    let all : Paints (light (side_of s) (side_of s)) k (IsDark s modes words) =
    paints_both (light (side_of s) (side_of s)) g k (λ x y. IsTrue (is_dark_fixed s.full (centre_of s) x y))
    (λ x y. IsModeDot s.full (centre_of s) (word_bits 4 modes) x y ⊎ IsDataDot s (data_bits s words) x y) (IsDark s modes words) fixed
    (paints_both g h k (IsModeDot s.full (centre_of s) (word_bits 4 modes)) (IsDataDot s (data_bits s words))
    (λ x y. IsModeDot s.full (centre_of s) (word_bits 4 modes) x y ⊎ IsDataDot s (data_bits s words) x y) mode' data'
    (λ x y in_x in_y d. d) (λ x y in_x in_y d. d))
    (λ x y in_x in_y d. d) (λ x y in_x in_y d. d) in
    record {
      modes = modes;
      message = message;
      shown = record {
        square = painted_square (side_of s) k (IsDark s modes words) all;
        dark = painted_dark (side_of s) k (IsDark s modes words) all;
      };
    }

-- the same, with the side and the first picture as the drawing has them
pub drawn_from : (s : Size) (held : ℕ) (modes words : List ℕ) (mode_row data_row : List Bool) (side : ℕ) (start g h k : Picture) → IsModeMessage s held modes →
    mode_row ≡ word_bits 4 modes → data_row ≡ data_bits s words → side ≡ side_of s → start ≡ light side side →
    Paints start g (λ x y. IsTrue (is_dark_fixed s.full (side / 2) x y)) →
    Paints g h (IsModeDot s.full (side / 2) mode_row) → Paints h k (IsDataDot s data_row) → IsSymbolGrid s held words k
drawn_from s held modes words mode_row data_row side start g h k message is-mode is-data is-side is-light fixed mode data_ =
    drawn_symbol s held modes words mode_row data_row g h k message is-mode is-data
    (subst (λ (n : ℕ). Paints (light n n) g (λ x y. IsTrue (is_dark_fixed s.full (n / 2) x y))) is-side
    (subst (λ (p : Picture). Paints p g (λ x y. IsTrue (is_dark_fixed s.full (side / 2) x y))) is-light fixed))
    (subst (λ (n : ℕ). Paints g h (IsModeDot s.full (n / 2) mode_row)) is-side mode)
    data_

-- the fixed modules and the words of a rune
pub drawn_rune : (value : ℕ) (words : List ℕ) (row : List Bool) (start g h : Picture) → IsRuneMessage value words →
    row ≡ word_bits 4 (masked words) → start ≡ light 11 11 → Paints start g (λ x y. IsTrue (is_dark_fixed false 5 x y)) →
    Paints g h (IsModeDot false 5 row) → IsRune value h
drawn_rune value words row start g h message is-row is-light fixed mode =
    let all : Paints (light 11 11) h (λ x y. IsTrue (is_dark_fixed false 5 x y) ⊎ IsModeDot false 5 (word_bits 4 (masked words)) x y) =
    paints_both (light 11 11) g h (λ x y. IsTrue (is_dark_fixed false 5 x y)) (IsModeDot false 5 (word_bits 4 (masked words)))
    (λ x y. IsTrue (is_dark_fixed false 5 x y) ⊎ IsModeDot false 5 (word_bits 4 (masked words)) x y)
    (subst (λ (p : Picture). Paints p g (λ x y. IsTrue (is_dark_fixed false 5 x y))) is-light fixed)
    (subst (λ (r : List Bool). Paints g h (IsModeDot false 5 r)) is-row mode)
    (λ x y in_x in_y d. d) (λ x y in_x in_y d. d) in
    record {
      words = words;
      message = message;
      square = painted_square 11 h (λ x y. IsTrue (is_dark_fixed false 5 x y) ⊎ IsModeDot false 5 (word_bits 4 (masked words)) x y) all;
      dark = painted_dark 11 h (λ x y. IsTrue (is_dark_fixed false 5 x y) ⊎ IsModeDot false 5 (word_bits 4 (masked words)) x y) all;
    }

-- words that continue the two words of a value are the value's rune message
pub rune_message : (value : ℕ) (words : List ℕ) → IsContinuation 4 (polynomial_of 4) (value / 16 ∷ value % 16 ∷ []) 5 words → IsRuneMessage value words
rune_message value words h = record {
  front = ap (word_bits 4) h.continues.begins ∙ word_bits_two value;
  counted = h.continues.counted;
  coded = h.continues.check;
}

pub rune_once : (value : ℕ) (words others : List ℕ) → IsContinuation 4 (polynomial_of 4) (value / 16 ∷ value % 16 ∷ []) 5 words → IsRuneMessage value others →
    others ≡ words
rune_once value words others h other =
    continued_once 2 5 (value / 16 ∷ value % 16 ∷ []) words others refl h other.counted other.coded (other.front ∙ sym (word_bits_two value))
