-- The texts of grids are read to their ends; where a byte cannot follow, none goes on.
use Rattle.std.proofs.Common.{◌≡◌, ◌⊎◌, ℕ, suc, ◌+◌, ◌<◌, ◌≤◌, inl, inr, Bool, true, false, List, [], ◌∷◌, ◌++◌, Some, length, map, refl, sym, ap, subst, ◌∙◌, arith}
use Rattle.std.specs.Prelude.{Option, None, ◌==◌, ◌&&◌, ◌||◌, not, if◌then◌else◌}
use Rattle.std.proofs.lemmas.Bool.Decides.{nat_tests}
use Rattle.std.proofs.lemmas.List.{append-nil}
use Rattle.bar_base.specs.GridText.{module_text}
use Rattle.symbol_reader.specs.Scanning.{return_after, can_end_text, is_full_line, is_whole_line, scan_on, scan_of, scan_start, scan_step}
use Rattle.symbol_reader.specs.GridLines.{IsLineEnd, IsGridText, AreLines, IsTextOf, feed, return_feed, no_line, last_line, line}
use Rattle.symbol_reader.specs.declared.scanning.Scan.{Scan}

abbrev at_column : (width column rows : ℕ) → Scan
at_column width column rows = record { width = width; column = column; rows = rows; returned = false }

pub scan_of-none : (bytes : List ℕ) → scan_of None bytes ≡ None
unfolding scan_of
scan_of-none [] = refl
scan_of-none (byte ∷ bytes) = scan_of-none bytes

pub scan_of-append : (scan : Option Scan) (xs ys : List ℕ) → scan_of scan (xs ++ ys) ≡ scan_of (scan_of scan xs) ys
unfolding scan_of
scan_of-append scan [] ys = refl
scan_of-append scan (x ∷ xs) ys = scan_of-append (scan_on scan x) xs ys

pub scan_of-one : (scan : Option Scan) (byte : ℕ) → scan_of scan (byte ∷ []) ≡ scan_on scan byte
unfolding scan_of
scan_of-one scan byte = refl

-- A module can stand where the line is not full.
not_full : (width column rows : ℕ) → (width ≡ 0) ⊎ (column < width) → is_full_line (at_column width column rows) ≡ false
not_full width column rows (inl is) = grind (arith, nat_tests)
not_full width column rows (inr is) = grind (arith, nat_tests)

module_steps : (width column rows : ℕ) (dark : Bool) → (width ≡ 0) ⊎ (column < width)
    → scan_step (at_column width column rows) (module_text dark) ≡ Some (at_column width (column + 1) rows)
module_steps width column rows true room =
    ap (λ (b : Bool). if b then None else Some (at_column width (column + 1) rows)) (not_full width column rows room)
module_steps width column rows false room =
    ap (λ (b : Bool). if b then None else Some (at_column width (column + 1) rows)) (not_full width column rows room)

less_room : (width column more : ℕ) → (width ≡ 0) ⊎ (column + suc more ≤ width) → (width ≡ 0) ⊎ (column < width)
less_room width column more (inl is) = inl is
less_room width column more (inr is) = inr (omega (arith, is))

next_room : (width column more : ℕ) → (width ≡ 0) ⊎ (column + suc more ≤ width) → (width ≡ 0) ⊎ (column + 1 + more ≤ width)
next_room width column more (inl is) = inl is
next_room width column more (inr is) = inr (omega (arith, is))

scan_of-row : (width column rows : ℕ) (row : List Bool) (rest : List ℕ) → (width ≡ 0) ⊎ (column + length row ≤ width)
    → scan_of (Some (at_column width column rows)) (map module_text row ++ rest) ≡ scan_of (Some (at_column width (column + length row) rows)) rest
unfolding scan_of
scan_of-row width column rows [] rest room = ap (λ (n : ℕ). scan_of (Some (at_column width n rows)) rest) (let e : column ≡ column + 0 = omega arith in e)
scan_of-row width column rows (dark ∷ row) rest room =
    ap (λ (s : Option Scan). scan_of s (map module_text row ++ rest)) (module_steps width column rows dark (less_room width column (length row) room))
    ∙ scan_of-row width (column + 1) rows row rest (next_room width column (length row) room)
    ∙ ap (λ (n : ℕ). scan_of (Some (at_column width n rows)) rest) (let e : column + 1 + length row ≡ column + suc (length row) = omega arith in e)

is_whole : (width column rows : ℕ) → 1 ≤ column → (width ≡ 0) ⊎ (column ≡ width) → is_whole_line (at_column width column rows) ≡ true
is_whole width column rows some (inl is) = grind (arith, nat_tests)
is_whole width column rows some (inr is) = grind (arith, nat_tests)

scan_of-end : (width column rows : ℕ) (end rest : List ℕ) → IsLineEnd end → is_whole_line (at_column width column rows) ≡ true
    → scan_of (Some (at_column width column rows)) (end ++ rest) ≡ scan_of (Some (at_column column 0 (rows + 1))) rest
unfolding scan_of
scan_of-end width column rows _ rest feed whole =
    ap (λ (b : Bool). scan_of (if b then Some (at_column column 0 (rows + 1)) else None) rest) whole
scan_of-end width column rows _ rest return_feed whole =
    ap (λ (b : Bool). scan_of (scan_on (if b then Some (return_after (at_column width column rows)) else None) 10) rest) whole

-- The sides of a text that ends there.
text_width : Scan → ℕ
text_width scan = if scan.column == 0 then scan.width else scan.column

text_count : Scan → ℕ
text_count scan = if scan.column == 0 then scan.rows else scan.rows + 1

-- A good text runs to its end, which says its sides.
record RunsOut (scan : Option Scan) (width count : ℕ) : Type 0 where
  state : Scan
  is : scan ≡ Some state
  ends : can_end_text state ≡ true
  width_is : text_width state ≡ width
  count_is : text_count state ≡ count

width_of_row : (width column rows : ℕ) → 1 ≤ column → text_width (at_column width column rows) ≡ column
unfolding text_width
width_of_row width column rows some = grind (arith, nat_tests)

count_of_row : (width column rows : ℕ) → 1 ≤ column → text_count (at_column width column rows) ≡ rows + 1
unfolding text_count
count_of_row width column rows some = grind (arith, nat_tests)

ends_between : (width rows : ℕ) → 1 ≤ width → can_end_text (at_column width 0 rows) ≡ true
ends_between width rows wide = grind (arith, nat_tests)

ends_whole : (width column rows : ℕ) → is_whole_line (at_column width column rows) ≡ true → can_end_text (at_column width column rows) ≡ true
ends_whole width column rows whole = ap (λ (b : Bool). b || (not (width == 0) && (column == 0))) whole

-- A row of the width that is known, if one is, fits, and is whole.
row_room : (known width : ℕ) (row : List Bool) → length row ≡ width → (known ≡ 0) ⊎ (known ≡ width) → (known ≡ 0) ⊎ (0 + length row ≤ known)
row_room known width row long (inl is) = inl is
row_room known width row long (inr is) = inr (omega (arith, is, long))

row_whole : (known width column : ℕ) → column ≡ width → (known ≡ 0) ⊎ (known ≡ width) → (known ≡ 0) ⊎ (column ≡ known)
row_whole known width column long (inl is) = inl is
row_whole known width column long (inr is) = inr (long ∙ sym is)

runs_row : (known width rows : ℕ) (row : List Bool) → 1 ≤ width → (known ≡ 0) ⊎ (known ≡ width) → length row ≡ width
    → RunsOut (scan_of (Some (at_column known 0 rows)) (map module_text row)) width (rows + 1)
unfolding scan_of
runs_row known width rows row wide fits long = record {
  state = at_column known (0 + length row) rows;
  is = ap (scan_of (Some (at_column known 0 rows))) (sym (append-nil (map module_text row))) ∙ scan_of-row known 0 rows row [] (row_room known width row long fits);
  ends = ends_whole known (0 + length row) rows (is_whole known (0 + length row) rows (omega (arith, long, wide)) (row_whole known width (0 + length row) (omega (arith, long)) fits));
  width_is = width_of_row known (0 + length row) rows (omega (arith, long, wide)) ∙ (let e : 0 + length row ≡ width = omega (arith, long) in e);
  count_is = count_of_row known (0 + length row) rows (omega (arith, long, wide));
}

after_row : (known width rows : ℕ) (row : List Bool) (end rest : List ℕ) → 1 ≤ width → (known ≡ 0) ⊎ (known ≡ width) → length row ≡ width → IsLineEnd end
    → scan_of (Some (at_column known 0 rows)) (map module_text row ++ (end ++ rest)) ≡ scan_of (Some (at_column width 0 (rows + 1))) rest
after_row known width rows row end rest wide fits long ends =
    scan_of-row known 0 rows row (end ++ rest) (row_room known width row long fits)
    ∙ ap (λ (n : ℕ). scan_of (Some (at_column known n rows)) (end ++ rest)) (let e : 0 + length row ≡ width = omega (arith, long) in e)
    ∙ scan_of-end known width rows end rest ends (is_whole known width rows wide (row_whole known width width refl fits))

lines_run : {width : ℕ} {rows : List (List Bool)} {bytes : List ℕ} (count : ℕ) → 1 ≤ width → AreLines width rows bytes
    → RunsOut (scan_of (Some (at_column width 0 count)) bytes) width (count + length rows)
unfolding scan_of text_width text_count
lines_run {width} count wide no_line = record { state = at_column width 0 count; is = refl; ends = ends_between width count wide; width_is = refl; count_is = let e : count ≡ count + 0 = omega arith in e }
lines_run {width} count wide (last_line {row} long) = runs_row width width count row wide (inr refl) long
lines_run {width} count wide (line {row} {rows} {end} {rest} long ends more) =
    subst (λ (n : ℕ). RunsOut (scan_of (Some (at_column width 0 count)) (map module_text row ++ (end ++ rest))) width n)
    (let e : count + 1 + length rows ≡ count + suc (length rows) = omega arith in e)
    (subst (λ (s : Option Scan). RunsOut s width (count + 1 + length rows)) (sym (after_row width width count row end rest wide (inr refl) long ends)) (lines_run (count + 1) wide more))

first_lines : {width : ℕ} {rows : List (List Bool)} {bytes : List ℕ} → 1 ≤ width → 1 ≤ length rows → AreLines width rows bytes
    → RunsOut (scan_of (Some scan_start) bytes) width (length rows)
first_lines {width} wide some no_line = absurd (omega (arith, some))
first_lines {width} wide some (last_line {row} long) = runs_row 0 width 0 row wide (inl refl) long
first_lines {width} wide some (line {row} {rows} {end} {rest} long ends more) =
    subst (λ (n : ℕ). RunsOut (scan_of (Some scan_start) (map module_text row ++ (end ++ rest))) width n)
    (let e : 1 + length rows ≡ suc (length rows) = omega arith in e)
    (subst (λ (s : Option Scan). RunsOut s width (1 + length rows)) (sym (after_row 0 width 0 row end rest wide (inl refl) long ends)) (lines_run 1 wide more))

nowhere : (width count : ℕ) → RunsOut None width count → ⊥
nowhere width count out = let e : None ≡ Some out.state = out.is in cc

-- Where a byte cannot stand, no text of a grid goes on.
pub none_on : (bytes : List ℕ) (scan : Scan) (byte : ℕ) (more : List ℕ) → scan_of (Some scan_start) bytes ≡ Some scan → scan_step scan byte ≡ None
    → IsGridText ((bytes ++ byte ∷ []) ++ more) → ⊥
none_on bytes scan byte more reached refused (width, count, sides) =
    nowhere width (length sides.rows) (subst (λ (s : Option Scan). RunsOut s width (length sides.rows))
    (scan_of-append (Some scan_start) (bytes ++ byte ∷ []) more
    ∙ ap (λ (s : Option Scan). scan_of s more) (scan_of-append (Some scan_start) bytes (byte ∷ []) ∙ scan_of-one (scan_of (Some scan_start) bytes) byte ∙ ap (λ (s : Option Scan). scan_on s byte) reached ∙ refused)
    ∙ scan_of-none more)
    (first_lines sides.text.wide sides.text.some sides.text.lines))

-- Where the bytes cannot end, they are no text of a grid.
pub none_here : (bytes : List ℕ) (scan : Scan) → scan_of (Some scan_start) bytes ≡ Some scan → can_end_text scan ≡ false → IsGridText bytes → ⊥
none_here bytes scan reached not_yet (width, count, sides) =
    let out = first_lines sides.text.wide sides.text.some sides.text.lines in
    let same : Some out.state ≡ Some scan = sym out.is ∙ reached in
    let state : out.state ≡ scan = cc in
    let both : true ≡ false = sym out.ends ∙ ap can_end_text state ∙ not_yet in
    cc

-- A text has one width and one number of rows.
pub sides_once : (bytes : List ℕ) (w w' : ℕ) (rows rows' : List (List Bool)) → IsTextOf w rows bytes → IsTextOf w' rows' bytes → (w ≡ w') × (length rows ≡ length rows')
sides_once bytes w w' rows rows' t t' =
    let out = first_lines t.wide t.some t.lines in
    let out' = first_lines t'.wide t'.some t'.lines in
    let same : Some out.state ≡ Some out'.state = sym out.is ∙ out'.is in
    let state : out.state ≡ out'.state = cc in
    (sym out.width_is ∙ ap text_width state ∙ out'.width_is, sym out.count_is ∙ ap text_count state ∙ out'.count_is)
