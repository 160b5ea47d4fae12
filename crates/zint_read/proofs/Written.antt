-- A grid of a symbol that is written is shown by its bytes, and these are few.
use Rattle.std.proofs.Common.{◌≡◌, ◌≤◌, ℕ, zero, suc, ◌+◌, ◌*◌, Bool, true, false, List, [], ◌∷◌, ◌++◌, length, map, drop, if◌then◌else◌, arith, Ok, refl, sym, ap, subst, inl, inr}
use Rattle.std.specs.Prelude.{MatchBool}
use Rattle.std.proofs.lemmas.List.{length-append, length-map, length-take}
use Rattle.std.proofs.lemmas.Nat.{mul-le}
use Rattle.std.proofs.Math.Nat.{suc-mul}
use Rattle.bar_base.specs.GridText.{grid_text, line_of, lines_from, module_text}
use Rattle.bar_base.specs.Paint.{IsPaint, painted_height, painted_width}
use Rattle.bar_base.specs.Picture.{IsMatrixSymbol, Picture, row_count, row_of}
use Rattle.bar_base.specs.declared.paint.Paint.{Paint}
use Rattle.bmp_io.specs.Bmp.{bmp_bytes, image_size, rows_from_bottom}
use Rattle.bmp_io.proofs.HeaderBack.{begins_with_mark}
use Rattle.bmp_io.proofs.ReadBack.{few-bytes, read_back}
use Rattle.zint_read.specs.Images.{IsWithin, IsWrittenAt, bmp_picture, is_bmp}
use Rattle.zint_read.proofs.Limits.{few_within}

-- the text of a grid does not begin as a BMP does
line_no_mark : (row : List Bool) (rest : List ℕ) → is_bmp (line_of row ++ rest) ≡ false
line_no_mark [] rest = refl
line_no_mark (true ∷ row) rest = refl
line_no_mark (false ∷ row) rest = refl

text_no_mark : (picture : Picture) (y count : ℕ) → is_bmp (lines_from picture y count) ≡ false
unfolding lines_from
text_no_mark picture y zero = refl
text_no_mark picture y (suc count) = line_no_mark (row_of picture y) (lines_from picture (suc y) count)

bmp_mark : (paint : Paint) (picture : Picture) → is_bmp (bmp_bytes paint picture) ≡ true
unfolding bmp_bytes
bmp_mark paint picture = begins_with_mark (painted_width paint picture) (painted_height paint picture) (image_size paint picture) (rows_from_bottom paint picture)

lines_few : (picture : Picture) (y count : ℕ) → length (lines_from picture y count) ≤ count * (picture.width + 1)
unfolding lines_from
lines_few picture y zero = omega arith
lines_few picture y (suc count) =
    let row = row_of picture y in
    omega (
      arith,
      length-append (line_of row) (lines_from picture (suc y) count),
      length-append (map module_text row) (10 ∷ []),
      length-map row module_text,
      length-take picture.width (drop (y * picture.width) picture.modules),
      lines_few picture (suc y) count,
      suc-mul count (picture.width + 1),
    )

-- What is seen of a BMP or of a text holds of what is written, where it holds of the BMP and of the text.
pub either_written : (paint : Paint) (bytes : List ℕ) (grid : Picture) (OfBmp OfText : List ℕ → Type 0) → IsPaint paint → IsMatrixSymbol grid
    → ((b : List ℕ) → bmp_picture paint b (Ok grid) → OfBmp b) → OfText (grid_text grid) → IsWrittenAt paint bytes grid
    → MatchBool (is_bmp bytes) (OfBmp bytes) (OfText bytes)
either_written paint bytes grid OfBmp OfText valid matrix of_bmp of_text (inl is) =
    subst (λ (b : List ℕ). MatchBool (is_bmp b) (OfBmp b) (OfText b)) (sym is)
    (subst (λ (mark : Bool). MatchBool mark (OfBmp (grid_text grid)) (OfText (grid_text grid))) (sym (text_no_mark grid 0 (row_count grid))) of_text)
either_written paint bytes grid OfBmp OfText valid matrix of_bmp of_text (inr is) =
    subst (λ (b : List ℕ). MatchBool (is_bmp b) (OfBmp b) (OfText b)) (sym is)
    (subst (λ (mark : Bool). MatchBool mark (OfBmp (bmp_bytes paint grid)) (OfText (bmp_bytes paint grid))) (sym (bmp_mark paint grid))
    (of_bmp (bmp_bytes paint grid) (read_back paint grid valid matrix)))

-- The bytes are within the limit.
pub written_within : (paint : Paint) (bytes : List ℕ) (grid : Picture) → IsPaint paint → IsMatrixSymbol grid → IsWrittenAt paint bytes grid → IsWithin bytes
written_within paint bytes grid valid matrix (inl is) =
    let narrow : grid.width + 1 ≤ 152 = omega (arith, matrix.narrow) in
    few_within bytes (omega (arith, ap length is, lines_few grid 0 (row_count grid), mul-le (row_count grid) (grid.width + 1) 151 152 matrix.short narrow))
written_within paint bytes grid valid matrix (inr is) =
    subst IsWithin (sym is)
    (subst (λ (mark : Bool). length (bmp_bytes paint grid) ≤ (if mark then 33554432 else 65536)) (sym (bmp_mark paint grid)) (few-bytes paint grid valid matrix))
