-- The lines of the dark runs, run by run and row by row.
use Rattle.std.proofs.Common.{◌≡◌, ℕ, suc, ◌+◌, ◌-◌, ◌*◌, ◌<◌, ◌≤◌, Bool, true, false, cond, List, [], ◌∷◌, ◌++◌, drop, length, min, if◌then◌else◌, refl, ap, ◌∙◌, arith}
use Rattle.std.specs.List.{flat_map, filter, range_with_len}
use Rattle.std.proofs.lemmas.List.{length-take, length-drop}
use Rattle.std.proofs.Math.Nat.{mul-le-mul_right}
use Rattle.std.proofs.lemmas.List.Concat.{flat_map-append}
use Rattle.std.proofs.lemmas.List.Folds.{flat_map-map}
use Rattle.bar_base.specs.Picture.{Picture, IsShaped, row_of, row_count}
use Rattle.bar_base.specs.declared.paint.Paint.{Paint}
use Rattle.vector_out.specs.declared.form.Form.{Form}
use Rattle.vector_out.specs.Runs.{begins_run, dark_run_starts, rectangle_of, row_rectangles, dark_rectangles}
use Rattle.vector_out.specs.Drawing.{rectangle_line, run_line, row_lines, rectangle_lines}

row-enough : (width y rows modules : ℕ) → modules ≡ rows * width → y < rows → width ≤ modules - y * width
row-enough width y rows modules whole inside = let top : (y + 1) * width ≤ rows * width = mul-le-mul_right width (omega arith) in omega (arith, top)

-- a row has as many modules as the picture is wide
pub length-row : (picture : Picture) (y : ℕ) → IsShaped picture → y < row_count picture → length (row_of picture y) ≡ picture.width
length-row picture y shape inside =
    length-take picture.width (drop (y * picture.width) picture.modules) ∙ ap (min picture.width) (length-drop (y * picture.width) picture.modules)
    ∙ (let enough : picture.width ≤ length picture.modules - y * picture.width = row-enough picture.width y (row_count picture) (length picture.modules) shape.whole inside in omega arith)

-- the first of the numbers that are left
pub range-first : (n i : ℕ) → i < n → range_with_len i (n - i) ≡ i ∷ range_with_len (i + 1) (n - (i + 1))
range-first n i inside = let count : n - i ≡ suc (n - (i + 1)) = omega arith in rw count refl

by_test : {X : Type 0} (f : X → List ℕ) (x : X) (passing : List X) (rest : List ℕ) (passes : Bool) → flat_map f passing ≡ rest
    → flat_map f (cond passes (x ∷ passing) passing) ≡ (if passes then f x else []) ++ rest
by_test f x passing rest true same = ap (λ rest. f x ++ rest) same
by_test f x passing rest false same = same

-- what the items that pass give
flat_map-filter : {X : Type 0} (f : X → List ℕ) (test : X → Bool) (xs : List X) → flat_map f (filter test xs) ≡ flat_map (λ x. if test x then f x else []) xs
flat_map-filter f test [] = refl
flat_map-filter f test (x ∷ xs) = by_test f x (filter test xs) (flat_map (λ x. if test x then f x else []) xs) (test x) (flat_map-filter f test xs)

-- the lines of a row, column by column
pub row_lines-columns : (form : Form) (paint : Paint) (picture : Picture) (y : ℕ) → IsShaped picture → y < row_count picture →
    row_lines form paint picture y ≡ flat_map (run_line form paint picture y) (range_with_len 0 picture.width)
unfolding row_lines row_rectangles run_line
row_lines-columns form paint picture y shape inside =
    let row = row_of picture y in
    flat_map-map (rectangle_line form) (rectangle_of paint picture y) (dark_run_starts row)
    ∙ flat_map-filter (λ x. rectangle_line form (rectangle_of paint picture y x)) (begins_run row) (range_with_len 0 (length row))
    ∙ ap (λ width. flat_map (λ x. if begins_run row x then rectangle_line form (rectangle_of paint picture y x) else []) (range_with_len 0 width)) (length-row picture y shape inside)

-- the lines of all rows
flat_map-flat_map : {X Y : Type 0} (f : Y → List ℕ) (g : X → List Y) (xs : List X) → flat_map f (flat_map g xs) ≡ flat_map (λ x. flat_map f (g x)) xs
flat_map-flat_map f g [] = refl
flat_map-flat_map f g (x ∷ xs) = rw (flat_map-append f (g x) (flat_map g xs), flat_map-flat_map f g xs) refl

pub rectangle_lines-rows : (form : Form) (paint : Paint) (picture : Picture) → rectangle_lines form paint picture ≡ flat_map (row_lines form paint picture) (range_with_len 0 (row_count picture))
unfolding rectangle_lines dark_rectangles row_lines
rectangle_lines-rows form paint picture = flat_map-flat_map (rectangle_line form) (row_rectangles paint picture) (range_with_len 0 (row_count picture))

-- the line at a column where a run begins, and at one where none does
pub run_line-some : (form : Form) (paint : Paint) (picture : Picture) (y x : ℕ) → begins_run (row_of picture y) x ≡ true → run_line form paint picture y x ≡ rectangle_line form (rectangle_of paint picture y x)
unfolding run_line
run_line-some form paint picture y x begins = ap (λ (begins : Bool). if begins then rectangle_line form (rectangle_of paint picture y x) else []) begins

pub run_line-none : (form : Form) (paint : Paint) (picture : Picture) (y x : ℕ) → begins_run (row_of picture y) x ≡ false → run_line form paint picture y x ≡ []
unfolding run_line
run_line-none form paint picture y x begins = ap (λ (begins : Bool). if begins then rectangle_line form (rectangle_of paint picture y x) else []) begins
