-- The modules of a cut, one after the other.
use Rattle.std.proofs.Common.{◌≡◌, ℕ, ◌+◌, ◌*◌, ◌/◌, ◌%◌, ◌<◌, ◌≤◌, ⊎_elim, Bool, true, false, List, Option, Some, None, length, replicate, set, refl, sym, ap, subst, ◌∙◌, arith}
use Rattle.std.specs.Prelude.{is_some, slice_get}
use Rattle.std.proofs.Math.Nat.{div-add-mod', mod-lt, mul-le-mul_right}
use Rattle.std.proofs.lemmas.Bool.{cases_lt}
use Rattle.std.proofs.lemmas.List.{length-replicate, length-set}
use Rattle.std.proofs.lemmas.Nat.{div-mul-add, div_below}
use Rattle.bar_base.specs.Picture.{Picture, light, with_module}
use Rattle.aztec_layout.specs.Sizes.{side_of}
use Rattle.aztec_layout.specs.declared.sizes.Size.{Size}
use Rattle.aztec_layout.proofs.PaintingLemmas.{slice_get-set_other, slice_get-set_same}
use Rattle.aztec_layout.proofs.ReadLemmas.{same_items}
use Rattle.image_locate.specs.Stands.{IsCut, module_seen}
use Rattle.image_locate.specs.declared.stand.Stand.{Stand}

-- The first modules of a cut stand in the grid.
pub record CutSoFar (picture : Picture) (stand : Stand) (side n : ℕ) (grid : Picture) : Type 0 where
  pub width : grid.width ≡ side
  pub heights : grid.heights ≡ replicate side 1
  pub whole : length grid.modules ≡ side * side
  pub inside : (k : ℕ) → k < n → is_some (module_seen picture stand (side / 2) (k % side) (k / side)) ≡ true
  pub modules : (k : ℕ) → k < n → slice_get grid.modules k ≡ module_seen picture stand (side / 2) (k % side) (k / side)

pub cut_none : (picture : Picture) (stand : Stand) (side : ℕ) → CutSoFar picture stand side 0 (light side side)
cut_none picture stand side = record {
  width = refl;
  heights = refl;
  whole = length-replicate (side * side) false;
  inside = λ k none. absurd (omega (arith, none));
  modules = λ k none. absurd (omega (arith, none));
}

pub cut_more : (picture : Picture) (stand : Stand) (side n : ℕ) (grid : Picture) (dark : Bool) → CutSoFar picture stand side n grid → n < side * side
    → module_seen picture stand (side / 2) (n % side) (n / side) ≡ Some dark → CutSoFar picture stand side (n + 1) (with_module grid (n % side) (n / side) dark)
cut_more picture stand side n grid dark so_far within seen = record {
  width = so_far.width;
  heights = so_far.heights;
  whole = length-set grid.modules (n / side * grid.width + n % side) dark ∙ so_far.whole;
  inside = λ k below. ⊎_elim (λ less. so_far.inside k less) (λ more. here_inside k (omega (arith, more, below))) (cases_lt k n);
  modules = λ k below. ⊎_elim (λ less. before k less) (λ more. here k (omega (arith, more, below))) (cases_lt k n);
}
  where
    place : n / side * grid.width + n % side ≡ n
    place = ap (λ (w : ℕ). n / side * w + n % side) so_far.width ∙ div-add-mod' n side

    here_inside : (k : ℕ) → k ≡ n → is_some (module_seen picture stand (side / 2) (k % side) (k / side)) ≡ true
    here_inside k is = rw (is, seen) refl

    here : (k : ℕ) → k ≡ n → slice_get (set grid.modules (n / side * grid.width + n % side) dark) k ≡ module_seen picture stand (side / 2) (k % side) (k / side)
    here k is = rw (is, seen, place) (slice_get-set_same grid.modules n dark (omega (arith, so_far.whole, within)))

    before : (k : ℕ) → k < n → slice_get (set grid.modules (n / side * grid.width + n % side) dark) k ≡ module_seen picture stand (side / 2) (k % side) (k / side)
    before k less = rw place (slice_get-set_other grid.modules n k dark (λ is. omega (arith, is, less))) ∙ so_far.modules k less

place_below : (side a b : ℕ) → a < side → b < side → b * side + a < side * side
place_below side a b in_row in_column =
    let most : (b + 1) * side ≤ side * side = mul-le-mul_right side (omega (arith, in_column)) in
    omega (arith, most, in_row)

-- column and row of a place
place_column : (s a b : ℕ) → a < s → (b * s + a) % s ≡ a
place_column s a b in_row =
    let again : b * s + (b * s + a) % s ≡ b * s + a = ap (λ (q : ℕ). q * s + (b * s + a) % s) (sym (div-mul-add b s a in_row)) ∙ div-add-mod' (b * s + a) s in
    omega (arith, again)

-- all modules of a cut
pub cut_all : (picture : Picture) (stand : Stand) (size : Size) (n : ℕ) (grid : Picture) → size.full ≡ stand.full → CutSoFar picture stand (side_of size) n grid
    → side_of size * side_of size ≤ n → IsCut picture stand size grid
cut_all picture stand size n grid kind so_far whole = record {
  kind = kind;
  width = so_far.width;
  heights = so_far.heights;
  whole = so_far.whole;
  inside = λ a b in_row in_column.
      let s = side_of size in
      let below : b * s + a < n = omega (arith, place_below s a b in_row in_column, whole) in
      ap (λ (m : Option Bool). is_some m) (sym (there a b in_row)) ∙ so_far.inside (b * s + a) below;
  modules = λ a b in_row in_column.
      let s = side_of size in
      let below : b * s + a < n = omega (arith, place_below s a b in_row in_column, whole) in
      ap (λ (w : ℕ). slice_get grid.modules (b * w + a)) so_far.width ∙ so_far.modules (b * s + a) below ∙ there a b in_row;
}
  where
    there : (a b : ℕ) → a < side_of size → module_seen picture stand (side_of size / 2) ((b * side_of size + a) % side_of size) ((b * side_of size + a) / side_of size)
        ≡ module_seen picture stand (side_of size / 2) a b
    there a b in_row =
        ap (λ (x : ℕ). module_seen picture stand (side_of size / 2) x ((b * side_of size + a) / side_of size)) (place_column (side_of size) a b in_row)
        ∙ ap (module_seen picture stand (side_of size / 2) a) (div-mul-add b (side_of size) a in_row)

-- a module outside the picture
pub no_cut : (picture : Picture) (stand : Stand) (size : Size) (n : ℕ) → 1 ≤ side_of size → n < side_of size * side_of size
    → module_seen picture stand (side_of size / 2) (n % side_of size) (n / side_of size) ≡ None → (grid : Picture) → IsCut picture stand size grid → ⊥
no_cut picture stand size n some within none grid is =
    let s = side_of size in
    let seen = is.inside (n % s) (n / s) (mod-lt n (omega (arith, some))) (div_below n s s (omega (arith, some)) within) in
    let e : false ≡ true = ap (λ (m : Option Bool). is_some m) (sym none) ∙ seen in cc

picture_with : ℕ → List ℕ → List Bool → Picture
picture_with width heights modules = record { width = width; heights = heights; modules = modules }

-- A stand has one cut of a size.
pub cut_once : (picture : Picture) (stand : Stand) (size : Size) (one other : Picture) → 1 ≤ side_of size → IsCut picture stand size one → IsCut picture stand size other → one ≡ other
unfolding picture_with
cut_once picture stand size one other some is is_other =
    let s = side_of size in
    let modules : one.modules ≡ other.modules = same_items one.modules other.modules (is.whole ∙ sym is_other.whole)
    (λ t inside.
    let row : t / s < s = div_below t s s (omega (arith, some)) (subst (λ (n : ℕ). t < n) is.whole inside) in
    let column : t % s < s = mod-lt t (omega (arith, some)) in
    let place : t / s * s + t % s ≡ t = div-add-mod' t s in
    let mine : slice_get one.modules (t / s * one.width + t % s) ≡ slice_get other.modules (t / s * other.width + t % s) = is.modules (t % s) (t / s) column row ∙ sym (is_other.modules (t % s) (t / s) column row) in
    sym (ap (slice_get one.modules) (ap (λ (w : ℕ). t / s * w + t % s) is.width ∙ place)) ∙ mine ∙ ap (slice_get other.modules) (ap (λ (w : ℕ). t / s * w + t % s) is_other.width ∙ place)) in
    ap (λ (w : ℕ). picture_with w one.heights one.modules) (is.width ∙ sym is_other.width)
    ∙ ap (λ (hs : List ℕ). picture_with other.width hs one.modules) (is.heights ∙ sym is_other.heights)
    ∙ ap (picture_with other.width other.heights) modules
