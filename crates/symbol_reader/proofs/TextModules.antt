-- The modules of the text of a grid, and its picture.
use Rattle.std.proofs.Common.{◌≡◌, ℕ, ◌*◌, ◌≤◌, Bool, true, false, List, [], ◌∷◌, ◌++◌, length, map, refl, sym, ap, ◌∙◌, arith}
use Rattle.std.specs.Prelude.{replicate}
use Rattle.std.specs.List.{flat_map}
use Rattle.std.proofs.lemmas.List.{append-nil, length-append}
use Rattle.std.proofs.Math.Nat.{one-mul, suc-mul, zero-mul}
use Rattle.bar_base.specs.GridText.{module_text}
use Rattle.symbol_reader.specs.GridLines.{AreLines, HasTextSides, IsLineEnd, IsPictureWithin, feed, return_feed, no_line, last_line, line}
use Rattle.symbol_reader.specs.Scanning.{modules_in}

modules_in-row : (row : List Bool) (rest : List ℕ) → modules_in (map module_text row ++ rest) ≡ row ++ modules_in rest
modules_in-row [] rest = refl
modules_in-row (true ∷ row) rest = ap (λ (ms : List Bool). true ∷ ms) (modules_in-row row rest)
modules_in-row (false ∷ row) rest = ap (λ (ms : List Bool). false ∷ ms) (modules_in-row row rest)

modules_in-end : (end rest : List ℕ) → IsLineEnd end → modules_in (end ++ rest) ≡ modules_in rest
modules_in-end _ rest feed = refl
modules_in-end _ rest return_feed = refl

-- The modules of lines are those of the rows.
pub lines_modules : {width : ℕ} {rows : List (List Bool)} {bytes : List ℕ} → AreLines width rows bytes → modules_in bytes ≡ flat_map (λ row. row) rows
lines_modules no_line = refl
lines_modules (last_line {row} long) = ap modules_in (sym (append-nil (map module_text row))) ∙ modules_in-row row []
lines_modules (line {row} {rows} {end} {rest} long ends more) =
    modules_in-row row (end ++ rest) ∙ ap (λ (ms : List Bool). row ++ ms) (modules_in-end end rest ends ∙ lines_modules more)

lines_count : {width : ℕ} {rows : List (List Bool)} {bytes : List ℕ} → AreLines width rows bytes → length (flat_map (λ row. row) rows) ≡ length rows * width
lines_count {width} no_line = sym (zero-mul width)
lines_count {width} (last_line {row} long) = ap length (append-nil row) ∙ long ∙ (let e : width ≡ 1 * width = sym (one-mul width) in e)
lines_count {width} (line {row} {rows} {end} {rest} long ends more) =
    length-append row (flat_map (λ (r : List Bool). r) rows) ∙ omega (arith, long, lines_count more, suc-mul (length rows) width)

pub text_modules : (bytes : List ℕ) (width count : ℕ) → HasTextSides bytes width count → length (modules_in bytes) ≡ count * width
text_modules bytes width count h = ap length (lines_modules h.text.lines) ∙ lines_count h.text.lines ∙ ap (λ (n : ℕ). n * width) h.counted

-- The picture of a text with these sides.
pub picture_of : (most_wide most_rows : ℕ) (bytes : List ℕ) (width count : ℕ) → HasTextSides bytes width count → width ≤ most_wide → count ≤ most_rows
    → IsPictureWithin most_wide most_rows bytes (record { width = width; heights = replicate count 1; modules = modules_in bytes })
picture_of most_wide most_rows bytes width count h narrow short = record {
  rows = h.rows;
  text = h.text;
  heights = ap (λ (n : ℕ). replicate n 1) (sym h.counted);
  modules = lines_modules h.text.lines;
  narrow = narrow;
  short = omega (arith, h.counted, short);
}
