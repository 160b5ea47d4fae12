-- Rows of pixels: those found by division are the rows of modules, stacked.
use Rattle.std.proofs.Common.{◌≡◌, ℕ, zero, suc, ◌+◌, ◌-◌, ◌*◌, ◌/◌, ◌<◌, ◌≤◌, Bool, List, [], ◌∷◌, ◌++◌, length, take, drop, replicate, reverse, get_or, sum, slice_index, Some, refl, sym, ap, ◌∙◌, arith}
use Rattle.std.specs.List.{flat_map, range_with_len, repeat, slice_get}
use Rattle.std.proofs.lemmas.Option.{get_or_from_slice_get}
use Rattle.std.proofs.lemmas.List.Sums.{sum_by_more}
use Rattle.std.proofs.lemmas.List.{take_all, take_at, length-take-le, append-nil, reverse-append, length-append, length-replicate}
use Rattle.std.proofs.lemmas.List.Concat.{flat_map-append}
use Rattle.std.proofs.lemmas.List.Folds.{flat_map-map}
use Rattle.bar_base.specs.Paint.{IsPaint, unit_of, tall_row, tall_rows, painted_rows, painted_height, modules_high}
use Rattle.bar_base.specs.Picture.{Picture, row_of, row_count}
use Rattle.bar_base.specs.declared.paint.Paint.{Paint}
use Rattle.bmp_io.specs.Bmp.{stride_of, row_at, rows_from_bottom}
use Rattle.bmp_io.specs.Pixels.{pixel_row, stacked}
use Rattle.bmp_io.proofs.PixelLemmas.{pixel_row-light, length-pixel_row}
use Rattle.bmp_io.proofs.Lists.{range-append, map-all_blocks, map-reverse, reverse-blocks, reverse-replicate, flat_map-blocks, flat_map-replicate, repeat-repeat}

-- two stacks, the lower one first
pub stacked-append : (paint : Paint) (bytes : ℕ) (upper lower : List (List Bool)) → stacked paint bytes (upper ++ lower) ≡ stacked paint bytes lower ++ stacked paint bytes upper
unfolding stacked
stacked-append paint bytes upper lower =
    rw (reverse-append upper lower) (flat_map-append (λ modules. repeat (unit_of paint) (pixel_row paint bytes modules)) (reverse lower) (reverse upper))

-- one row of modules more
pub tall_rows-more : (picture : Picture) (y : ℕ) → tall_rows picture (y + 1) ≡ tall_rows picture y ++ tall_row picture y
unfolding tall_rows
tall_rows-more picture y =
    let start : 0 + y ≡ y = omega arith in
    rw (range-append 0 y 1, start, flat_map-append (tall_row picture) (range_with_len 0 y) (y ∷ []))
    (ap (λ rows. flat_map (tall_row picture) (range_with_len 0 y) ++ rows) (append-nil (tall_row picture y)))

-- no rows are left
pub tall_rows-none : (picture : Picture) → tall_rows picture 0 ≡ []
unfolding tall_rows
tall_rows-none picture = refl

-- how many rows of modules there are, each as often as its height says
length-tall_rows : (picture : Picture) (rows : ℕ) → rows ≤ row_count picture → length (tall_rows picture rows) ≡ sum (take rows picture.heights)
length-tall_rows picture zero within = ap length (tall_rows-none picture)
length-tall_rows picture (suc rows) within =
    let count : suc rows ≡ rows + 1 = omega arith in
    let more : sum (take (rows + 1) picture.heights) ≡ sum (take rows picture.heights) + slice_index picture.heights rows = sum_by_more (λ x. x) picture.heights rows 0 (omega arith) in
    rw (count, tall_rows-more picture rows, length-append (tall_rows picture rows) (tall_row picture rows), length-tall_rows picture rows (omega arith), length-replicate (slice_index picture.heights rows) (row_of picture rows))
    (sym more)

-- the rows of the painted picture, in modules
pub length-painted_rows : (paint : Paint) (picture : Picture) → length (painted_rows paint picture) ≡ modules_high picture + 2 * paint.vwhite
unfolding painted_rows modules_high
length-painted_rows paint picture =
    let white : List (List Bool) = replicate paint.vwhite [] in
    let tall = tall_rows picture (row_count picture) in
    let is_high : length tall ≡ sum picture.heights = length-tall_rows picture (row_count picture) (omega arith) ∙ ap sum (take_all (row_count picture) picture.heights (omega arith)) in
    let is_white : length white ≡ paint.vwhite = length-replicate paint.vwhite [] in
    rw (length-append (white ++ tall) white, length-append white tall, is_white, is_high) (omega arith)

-- equal rows of modules
pub stacked-same : (paint : Paint) (bytes rows : ℕ) (modules : List Bool) → stacked paint bytes (replicate rows modules) ≡ repeat (rows * unit_of paint) (pixel_row paint bytes modules)
unfolding stacked
stacked-same paint bytes rows modules =
    rw (reverse-replicate rows modules, flat_map-replicate (λ (modules : List Bool). repeat (unit_of paint) (pixel_row paint bytes modules)) rows modules)
    (repeat-repeat rows (unit_of paint) (pixel_row paint bytes modules))

-- no rows
pub stacked-none : (paint : Paint) (bytes : ℕ) → stacked paint bytes [] ≡ []
unfolding stacked
stacked-none paint bytes = refl

-- the rows of pixels that show one row of modules
pub stacked-row : (paint : Paint) (picture : Picture) (y bytes height side : ℕ) (row : List ℕ) → slice_get picture.heights y ≡ Some height → side ≡ unit_of paint → row ≡ pixel_row paint bytes (row_of picture y)
    → stacked paint bytes (tall_row picture y) ≡ repeat (height * side) row
stacked-row paint picture y bytes height side row is_high is_wide made =
    let high : slice_index picture.heights y ≡ height = get_or_from_slice_get picture.heights y height 0 is_high in
    rw (stacked-same paint bytes (slice_index picture.heights y) (row_of picture y), high, is_wide, made) refl

-- the rows that are left, the lowest of them first
pub stacked-one_less : (paint : Paint) (picture : Picture) (bytes below : ℕ) → below < row_count picture →
    stacked paint bytes (tall_rows picture (row_count picture - below)) ≡
    stacked paint bytes (tall_row picture (row_count picture - 1 - below)) ++ stacked paint bytes (tall_rows picture (row_count picture - (below + 1)))
stacked-one_less paint picture bytes below inside =
    let y = row_count picture - (below + 1) in
    let count : row_count picture - below ≡ y + 1 = omega arith in
    let here : row_count picture - 1 - below ≡ y = omega arith in
    rw (count, here, tall_rows-more picture y) (stacked-append paint bytes (tall_rows picture y) (tall_row picture y))

-- the rows of pixels found by division are the rows of modules, stacked
pub rows-stacked : (paint : Paint) (picture : Picture) → IsPaint paint → rows_from_bottom paint picture ≡ stacked paint (stride_of paint picture) (painted_rows paint picture)
unfolding rows_from_bottom row_at stacked
rows-stacked paint picture valid =
    let u = unit_of paint in
    let rows = painted_rows paint picture in
    let row = pixel_row paint (stride_of paint picture) in
    let found = λ (q : ℕ). get_or rows (q / u) [] in
    let range = range_with_len 0 (painted_height paint picture) in
    let some : 0 < u = omega (arith, valid.seen) in
    let high : painted_height paint picture ≡ length rows * u = rw (length-painted_rows paint picture) (omega arith) in
    sym (flat_map-map row found (reverse range))
    ∙ ap (flat_map row) (map-reverse found range ∙ ap reverse (map-all_blocks rows [] u (painted_height paint picture) some high) ∙ reverse-blocks u rows)
    ∙ flat_map-blocks row u (reverse rows)

-- white space, the symbol, white space
pub rows-parts : (paint : Paint) (picture : Picture) → IsPaint paint → rows_from_bottom paint picture ≡
    stacked paint (stride_of paint picture) (replicate paint.vwhite []) ++ (stacked paint (stride_of paint picture) (tall_rows picture (row_count picture)) ++ stacked paint (stride_of paint picture) (replicate paint.vwhite []))
unfolding painted_rows
rows-parts paint picture valid =
    let bytes = stride_of paint picture in
    let white : List (List Bool) = replicate paint.vwhite [] in
    let tall = tall_rows picture (row_count picture) in
    rows-stacked paint picture valid ∙ stacked-append paint bytes (white ++ tall) white ∙ ap (λ rest. stacked paint bytes white ++ rest) (stacked-append paint bytes white tall)

-- the rows of pixels of the white space, when the first row of the caller's bytes is made
pub light-rows : (paint : Paint) (stride side : ℕ) (bytes made : List ℕ) → stride ≤ length bytes → side ≡ unit_of paint → made ≡ replicate (length (take stride bytes)) 0
    → stacked paint stride (replicate paint.vwhite []) ≡ repeat (paint.vwhite * side) (take stride (made ++ drop stride bytes))
light-rows paint stride side bytes made fits wide is_made =
    let sized : length (take stride bytes) ≡ stride = length-take-le stride bytes fits in
    let zeros : made ≡ replicate stride 0 = is_made ∙ ap (λ n. replicate n 0) sized in
    let long : length made ≡ stride = ap length zeros ∙ length-replicate stride 0 in
    let first : take stride (made ++ drop stride bytes) ≡ pixel_row paint stride [] = take_at made (drop stride bytes) stride long ∙ zeros ∙ sym (pixel_row-light paint stride) in
    rw (first, wide) (stacked-same paint stride paint.vwhite [])

-- the rows of pixels of one row of modules, when the first row of the caller's bytes is made
pub symbol-row : (paint : Paint) (picture : Picture) (y stride height side : ℕ) (bytes made : List ℕ) → stride ≤ length bytes → slice_get picture.heights y ≡ Some height → side ≡ unit_of paint
    → made ≡ pixel_row paint (length (take stride bytes)) (row_of picture y) → stacked paint stride (tall_row picture y) ≡ repeat (height * side) (take stride (made ++ drop stride bytes))
symbol-row paint picture y stride height side bytes made fits is_high wide is_made =
    let sized : length (take stride bytes) ≡ stride = length-take-le stride bytes fits in
    let row : made ≡ pixel_row paint stride (row_of picture y) = is_made ∙ ap (λ n. pixel_row paint n (row_of picture y)) sized in
    let long : length made ≡ stride = ap length row ∙ length-pixel_row paint stride (row_of picture y) in
    stacked-row paint picture y stride height side (take stride (made ++ drop stride bytes)) is_high wide (take_at made (drop stride bytes) stride long ∙ row)
