-- A grid comes back from its BMP.
use Rattle.std.proofs.Common.{◌≡◌, ℕ, zero, suc, ◌+◌, ◌-◌, ◌*◌, ◌/◌, ◌%◌, ◌^◌, ◌<◌, ◌≤◌, Bool, true, false, List, [], ◌∷◌, ◌++◌, map, length, drop, replicate, reverse, get_or, slice_index, nat_lt, nat_le, Option, Some, None, Ok, unwrap_or, is_some, if◌then◌else◌, refl, sym, ap, ◌∙◌, arith}
use Rattle.std.specs.List.{flat_map, list_all, range_with_len}
use Rattle.std.proofs.lemmas.Bool.Decides.{nat_tests}
use Rattle.std.proofs.lemmas.List.{length-append, length-map, length-replicate, length-reverse, get_or_append_left, get_or-append-add, get_or-reverse, get_or-replicate, get_or-take, get_or-drop, get_or-map}
use Rattle.std.proofs.lemmas.List.FromFn.{fill_by_all, length-range_with_len, get_or-range_with_len, length-map-range_with_len, get_or-map-range_with_len, map-range_with_len_more}
use Rattle.std.proofs.Math.Nat.{add-mul-mod_self_left, div-add-mod', mul-div_cancel_left, mul-le-mul_left, mod-lt}
use Rattle.std.proofs.lemmas.Nat.{div-mul-add, div_below, mul-le}
use Rattle.bar_base.specs.Paint.{IsPaint, unit_of, tall_rows, painted_rows, painted_width, painted_height, modules_high}
use Rattle.bar_base.specs.Picture.{Picture, IsMatrixSymbol, IsShaped, row_of, row_count}
use Rattle.bar_base.specs.declared.paint.Paint.{Paint}
use Rattle.bmp_io.specs.declared.bmp_header.BmpHeader.{BmpHeader}
use Rattle.bmp_io.specs.Bmp.{stride_of, image_size, file_header, picture_header, bytes_before_pixels, row_at, rows_from_bottom, bmp_bytes}
use Rattle.bmp_io.specs.Pixels.{module_over, pixel, eight_pixels, pixel_row}
use Rattle.bmp_io.specs.BmpHeader.{header_of, row_start}
use Rattle.bmp_io.specs.PixelsRead.{colour_of, pixel_at}
use Rattle.bmp_io.specs.ReadBmp.{module_seen, modules_seen, modules_across, modules_down, picture_seen, picture_or_refused, picture_by, picture_of, modules_between}
use Rattle.bmp_io.specs.Refusals.{is_side, size_test, rows_test}
use Rattle.bmp_io.specs.Samplings.{sampling_of}
use Rattle.bmp_io.proofs.Rows.{tall_rows-more, tall_rows-none, length-painted_rows}
use Rattle.bmp_io.proofs.BitsOfBytes.{bit-after, get_or-rows}
use Rattle.bmp_io.proofs.HeaderBack.{written_header, header-written, length-before_pixels, begins_with_mark, front-passes, fields-pass, palette-passes, high-written, header-passes}

-- with heights of 1, the rows stand one below the other
flat_rows : (picture : Picture) (rows : ℕ) → picture.heights ≡ replicate (row_count picture) 1 → rows ≤ row_count picture → tall_rows picture rows ≡ map (row_of picture) (range_with_len 0 rows)
flat_rows picture zero flat within = tall_rows-none picture
flat_rows picture (suc rows) flat within =
    let count : suc rows ≡ rows + 1 = omega arith in
    let high : slice_index picture.heights rows ≡ 1 = ap (λ heights. slice_index heights rows) flat ∙ get_or-replicate (row_count picture) rows 1 0 (omega arith) in
    ap (tall_rows picture) count ∙ tall_rows-more picture rows ∙ ap (λ height. tall_rows picture rows ++ replicate height (row_of picture rows)) high
    ∙ ap (λ upper. upper ++ row_of picture rows ∷ []) (flat_rows picture rows flat (omega arith))
    ∙ sym (map-range_with_len_more (row_of picture) 0 rows rows (omega arith)) ∙ ap (λ rows. map (row_of picture) (range_with_len 0 rows)) (sym count)

-- the row of modules at a height
painted-row : (paint : Paint) (picture : Picture) (y : ℕ) → IsMatrixSymbol picture → y < row_count picture → get_or (painted_rows paint picture) (paint.vwhite + y) [] ≡ row_of picture y
unfolding painted_rows
painted-row paint picture y symbol inside =
    let white : List (List Bool) = replicate paint.vwhite [] in
    let tall = tall_rows picture (row_count picture) in
    let is_tall : tall ≡ map (row_of picture) (range_with_len 0 (row_count picture)) = flat_rows picture (row_count picture) symbol.flat (omega arith) in
    let long : length tall ≡ row_count picture = ap length is_tall ∙ length-map-range_with_len (row_of picture) 0 (row_count picture) in
    let is_white : length white ≡ paint.vwhite = length-replicate paint.vwhite [] in
    let place : paint.vwhite + y ≡ length white + y = omega (arith, is_white) in
    get_or_append_left (white ++ tall) white [] (paint.vwhite + y) (omega (arith, length-append white tall, long, is_white))
    ∙ ap (λ k. get_or (white ++ tall) k []) place ∙ get_or-append-add white tall y []
    ∙ ap (λ rows. get_or rows y []) is_tall ∙ get_or-map-range_with_len (row_of picture) 0 (row_count picture) y y [] inside (omega arith)

-- the height in modules
rows-high : (paint : Paint) (picture : Picture) → IsMatrixSymbol picture → modules_high picture ≡ row_count picture
unfolding painted_rows
rows-high paint picture symbol =
    let white : List (List Bool) = replicate paint.vwhite [] in
    let tall = tall_rows picture (row_count picture) in
    let is_tall : tall ≡ map (row_of picture) (range_with_len 0 (row_count picture)) = flat_rows picture (row_count picture) symbol.flat (omega arith) in
    let long : length tall ≡ row_count picture = ap length is_tall ∙ length-map-range_with_len (row_of picture) 0 (row_count picture) in
    let is_white : length white ≡ paint.vwhite = length-replicate paint.vwhite [] in
    omega (arith, length-painted_rows paint picture, length-append (white ++ tall) white, length-append white tall, long, is_white)

-- a module of a row
row-module : (picture : Picture) (x y : ℕ) → IsShaped picture → x < picture.width → y < row_count picture → get_or (row_of picture y) x false ≡ get_or picture.modules (y * picture.width + x) false
row-module picture x y shape inside below =
    get_or-take picture.width (drop (y * picture.width) picture.modules) x false inside ∙ get_or-drop (y * picture.width) picture.modules x false

-- the pixel in the middle of a module shows it
middle-pixel : (paint : Paint) (row : List Bool) (x : ℕ) → IsPaint paint → pixel paint row (unit_of paint * (paint.white + x) + paint.scale) ≡ get_or row x false
middle-pixel paint row x valid =
    let u = unit_of paint in
    let product : u * (paint.white + x) + paint.scale ≡ (paint.white + x) * u + paint.scale = omega arith in
    let column : (u * (paint.white + x) + paint.scale) / u ≡ paint.white + x = ap (λ p. p / u) product ∙ div-mul-add (paint.white + x) u paint.scale (omega (arith, valid.seen)) in
    let long : paint.white + x ≡ length (replicate paint.white false) + x = omega (arith, length-replicate paint.white false) in
    ap (module_over paint row) column ∙ ap (λ k. get_or (replicate paint.white false ++ row) k false) long ∙ get_or-append-add (replicate paint.white false) row x false

-- a pixel as a bit of its byte
pixel-bit : (paint : Paint) (row : List Bool) (bytes p : ℕ) → p / 8 < bytes → slice_index (pixel_row paint bytes row) (p / 8) / 2 ^ (7 - p % 8) % 2 ≡ (if pixel paint row p then 1 else 0)
unfolding pixel_row eight_pixels
pixel-bit paint row bytes p inside =
    let bits = map (pixel paint row) (range_with_len (8 * (p / 8)) 8) in
    let byte : slice_index (pixel_row paint bytes row) (p / 8) ≡ eight_pixels paint row (8 * (p / 8)) =
    get_or-map-range_with_len (λ k. eight_pixels paint row (8 * k)) 0 bytes (p / 8) (p / 8) 0 inside (omega arith) in
    let small : p % 8 < 8 = omega arith in
    let place : 8 * (p / 8) + p % 8 ≡ p = omega arith in
    let bit : get_or bits (p % 8) false ≡ pixel paint row p = get_or-map-range_with_len (pixel paint row) (8 * (p / 8)) 8 (p % 8) p false small place in
    rw byte (bit-after 0 bits (p % 8) small ∙ ap (λ (bit : Bool). if bit then 1 else 0) bit)

-- a byte of the rows in the file
row-byte : (paint : Paint) (picture : Picture) (q j : ℕ) → q < painted_height paint picture → j < stride_of paint picture
    → slice_index (bmp_bytes paint picture) (62 + stride_of paint picture * (painted_height paint picture - 1 - q) + j) ≡ slice_index (row_at paint picture q) j
unfolding bmp_bytes rows_from_bottom row_at pixel_row
row-byte paint picture q j below inside =
    let s = stride_of paint picture in
    let h = painted_height paint picture in
    let header = bytes_before_pixels (painted_width paint picture) h (image_size paint picture) in
    let range = range_with_len 0 h in
    let i = h - 1 - q in
    let place : 62 + s * i + j ≡ length header + (s * i + j) = omega (arith, length-before_pixels (painted_width paint picture) h (image_size paint picture)) in
    let long : length range ≡ h = length-range_with_len 0 h in
    let here : get_or (reverse range) i 0 ≡ q =
    get_or-reverse range i 0 (omega (arith, long)) ∙ get_or-range_with_len 0 h (length range - 1 - i) 0 (omega (arith, long)) ∙ omega (arith, long) in
    ap (λ k. slice_index (bmp_bytes paint picture) k) place ∙ get_or-append-add header (rows_from_bottom paint picture) (s * i + j) 0
    ∙ get_or-rows (row_at paint picture) s (reverse range) i j 0 (λ q. length-map-range_with_len (λ k. eight_pixels paint (get_or (painted_rows paint picture) (q / unit_of paint) []) (8 * k)) 0 s) (omega (arith, length-reverse range, long)) inside
    ∙ ap (λ q. slice_index (row_at paint picture q) j) here

-- the row that is shown at q
row-shown : (paint : Paint) (picture : Picture) (q j : ℕ) → slice_index (row_at paint picture q) j ≡ slice_index (pixel_row paint (stride_of paint picture) (get_or (painted_rows paint picture) (q / unit_of paint) [])) j
unfolding row_at
row-shown paint picture q j = refl

-- the colours of the two bits
colour-shown : (paint : Paint) (picture : Picture) (width height : ℕ) (dark : Bool) → colour_of (written_header width height) (bmp_bytes paint picture) (if dark then 1 else 0) ≡ Some dark
unfolding bmp_bytes bytes_before_pixels file_header picture_header
colour-shown paint picture width height true = refl
colour-shown paint picture width height false = refl

-- where a row begins
start-written : (width height q : ℕ) → height < 2147483648 → row_start (written_header width height) q ≡ 62 + (width + 31) / 32 * 4 * (height - 1 - q)
start-written width height q low =
    let up : nat_le 2147483648 height ≡ false = grind (arith, nat_tests) in
    let one : width * 1 ≡ width = omega arith in
    rw (up, one) refl

-- the sides in pixels
side-few : (unit modules white : ℕ) → unit ≤ 40 → modules ≤ 151 → white ≤ 100 → unit * (modules + 2 * white) ≤ 14040
side-few unit modules white small few narrow = grind arith

side-some : (unit modules white : ℕ) → 0 < unit → 0 < modules → 0 < unit * (modules + 2 * white)
side-some unit modules white small few = grind arith

middle-below : (unit modules white x scale : ℕ) → x < modules → scale < unit → unit * (white + x) + scale < unit * (modules + 2 * white)
middle-below unit modules white x scale inside small =
    let top : unit * (white + x + 1) ≤ unit * (modules + 2 * white) = mul-le-mul_left unit (omega arith) in
    omega (arith, top)

-- the module in column x and row y is seen
seen-module : (paint : Paint) (picture : Picture) (x y : ℕ) → IsPaint paint → IsMatrixSymbol picture → x < picture.width → y < row_count picture
    → module_seen (sampling_of paint) (written_header (painted_width paint picture) (painted_height paint picture)) (bmp_bytes paint picture) x y ≡ Some (get_or picture.modules (y * picture.width + x) false)
unfolding module_seen pixel_at
seen-module paint picture x y valid symbol inside below =
    let u = unit_of paint in
    let w = painted_width paint picture in
    let h = painted_height paint picture in
    let s = stride_of paint picture in
    let bytes = bmp_bytes paint picture in
    let p = u * (paint.white + x) + paint.scale in
    let q = u * (paint.vwhite + y) + paint.scale in
    let high : h ≡ u * (row_count picture + 2 * paint.vwhite) = ap (λ rows. u * (rows + 2 * paint.vwhite)) (rows-high paint picture symbol) in
    let few : h ≤ 14040 = rw high (side-few u (row_count picture) paint.vwhite (omega (arith, valid.scaled)) symbol.short valid.short) in
    let in_width : p < w = middle-below u picture.width paint.white x paint.scale inside (omega (arith, valid.seen)) in
    let in_height : q < h = rw high (middle-below u (row_count picture) paint.vwhite y paint.scale below (omega (arith, valid.seen))) in
    let in_row : p / 8 < s = omega arith in
    let product : q ≡ (paint.vwhite + y) * u + paint.scale = omega arith in
    let row : q / u ≡ paint.vwhite + y = ap (λ q. q / u) product ∙ div-mul-add (paint.vwhite + y) u paint.scale (omega (arith, valid.seen)) in
    let start = start-written w h q (omega (arith, few)) in
    let byte : slice_index bytes (row_start (written_header w h) q + p / 8) ≡ slice_index (pixel_row paint s (row_of picture y)) (p / 8) =
    ap (λ start. slice_index bytes (start + p / 8)) start ∙ row-byte paint picture q (p / 8) in_height in_row
    ∙ row-shown paint picture q (p / 8) ∙ ap (λ row. slice_index (pixel_row paint s row) (p / 8)) (ap (λ k. get_or (painted_rows paint picture) k []) row ∙ painted-row paint picture y symbol below) in
    let index : slice_index bytes (row_start (written_header w h) q + p / 8) / 2 ^ (7 - p % 8) % 2 ≡ (if get_or (row_of picture y) x false then 1 else 0) =
    ap (λ byte. byte / 2 ^ (7 - p % 8) % 2) byte ∙ pixel-bit paint (row_of picture y) s p in_row ∙ ap (λ (dark : Bool). if dark then 1 else 0) (middle-pixel paint (row_of picture y) x valid) in
    ap (colour_of (written_header w h) bytes) index ∙ colour-shown paint picture w h (get_or (row_of picture y) x false) ∙ ap (λ dark. Some dark) (row-module picture x y symbol.shape inside below)

-- a side that was painted
side-passes : (unit modules white : ℕ) → 0 < unit → 0 < modules → modules ≤ 151 → is_side unit white 151 (unit * (modules + 2 * white)) ≡ true
side-passes unit modules white some one few =
    let whole : unit * (modules + 2 * white) % unit ≡ 0 =
    (let e : unit * (modules + 2 * white) ≡ 0 + unit * (modules + 2 * white) = omega arith in ap (λ n. n % unit) e ∙ add-mul-mod_self_left 0 unit (modules + 2 * white) ∙ omega arith) in
    let count : unit * (modules + 2 * white) / unit ≡ modules + 2 * white = mul-div_cancel_left (modules + 2 * white) some in
    let low : nat_lt (2 * white) (modules + 2 * white) ≡ true = grind (arith, nat_tests) in
    let high : nat_le (modules + 2 * white) (2 * white + 151) ≡ true = grind (arith, nat_tests) in
    rw (whole, count, low, high) refl

-- the modules between the white space
side-modules : (unit modules white : ℕ) → 0 < unit → modules_between unit white (unit * (modules + 2 * white)) ≡ modules
side-modules unit modules white some = ap (λ n. n - 2 * white) (mul-div_cancel_left (modules + 2 * white) some) ∙ omega arith

-- rows of one length
length-rows : {X : Type 0} (f : X → List ℕ) (size : ℕ) (xs : List X) → ((x : X) → length (f x) ≡ size) → length (flat_map f xs) ≡ size * length xs
length-rows f size [] sized = omega arith
length-rows f size (x ∷ xs) sized = omega (arith, length-append (f x) (flat_map f xs), sized x, length-rows f size xs sized)

-- the bytes of a file
pub length-bmp : (paint : Paint) (picture : Picture) → length (bmp_bytes paint picture) ≡ 62 + stride_of paint picture * painted_height paint picture
unfolding bmp_bytes rows_from_bottom row_at pixel_row
length-bmp paint picture =
    let s = stride_of paint picture in
    let h = painted_height paint picture in
    let range = range_with_len 0 h in
    let rows : length (rows_from_bottom paint picture) ≡ s * length (reverse range) =
    length-rows (row_at paint picture) s (reverse range) (λ q. length-map-range_with_len (λ k. eight_pixels paint (get_or (painted_rows paint picture) (q / unit_of paint) []) (8 * k)) 0 s) in
    let long : length (reverse range) ≡ h = length-reverse range ∙ length-range_with_len 0 h in
    let all : length (rows_from_bottom paint picture) ≡ s * h = rows ∙ ap (λ h. s * h) long in
    omega (arith, length-append (bytes_before_pixels (painted_width paint picture) h (image_size paint picture)) (rows_from_bottom paint picture), length-before_pixels (painted_width paint picture) h (image_size paint picture), all)

rows-pass : (width height : ℕ) (bytes : List ℕ) → height < 2147483648 → length bytes ≡ 62 + (width + 31) / 32 * 4 * height → rows_test (written_header width height) bytes ≡ Ok tt
unfolding rows_test
rows-pass width height bytes low long =
    let one : width * 1 ≡ width = omega arith in
    let enough : nat_le (62 + (width + 31) / 32 * 4 * height) (length bytes) ≡ true = grind (arith, nat_tests) in
    rw (high-written width height low, one, enough) refl

sides-pass : (paint : Paint) (width height : ℕ) → height < 2147483648 → is_side (unit_of paint) paint.white 151 width ≡ true → is_side (unit_of paint) paint.vwhite 151 height ≡ true
    → size_test (sampling_of paint) (written_header width height) ≡ Ok tt
unfolding size_test
sides-pass paint width height low wide high = rw (high-written width height low, wide, high) refl

-- modules that all have a colour
all-some : (modules : List Bool) → list_all is_some (map (λ (dark : Bool). Some dark) modules) ≡ true
all-some [] = refl
all-some (dark ∷ modules) = all-some modules

values-some : (modules : List Bool) → map (λ (seen : Option Bool). unwrap_or seen false) (map (λ (dark : Bool). Some dark) modules) ≡ modules
values-some [] = refl
values-some (dark ∷ modules) = ap (λ rest. dark ∷ rest) (values-some modules)

-- all modules were seen
all-seen : (paint : Paint) (picture : Picture) (header : BmpHeader) (bytes : List ℕ) → IsMatrixSymbol picture → modules_across (sampling_of paint) header ≡ picture.width → modules_down (sampling_of paint) header ≡ row_count picture
    → ((x y : ℕ) → x < picture.width → y < row_count picture → module_seen (sampling_of paint) header bytes x y ≡ Some (get_or picture.modules (y * picture.width + x) false))
    → picture_or_refused (sampling_of paint) header (modules_seen (sampling_of paint) header bytes (modules_down (sampling_of paint) header * modules_across (sampling_of paint) header)) ≡ Ok picture
unfolding picture_or_refused picture_seen modules_seen
all-seen paint picture header bytes symbol wide high seen =
    let some = λ (dark : Bool). Some dark in
    let look = λ (n : ℕ). module_seen (sampling_of paint) header bytes (n % picture.width) (n / picture.width) in
    let count = row_count picture * picture.width in
    let whole : length (map some picture.modules) ≡ count = length-map picture.modules some ∙ symbol.shape.whole in
    let each : (n : ℕ) → n < count → get_or (map some picture.modules) n None ≡ look n = λ n inside.
    (let column : n % picture.width < picture.width = mod-lt n (omega (arith, symbol.shape.wide)) in
    let row : n / picture.width < row_count picture = div_below n picture.width (row_count picture) (omega (arith, symbol.shape.wide)) inside in
    get_or-map some picture.modules n false None (omega (arith, symbol.shape.whole))
    ∙ ap (λ k. Some (get_or picture.modules k false)) (sym (div-add-mod' n picture.width))
    ∙ sym (seen (n % picture.width) (n / picture.width) column row)) in
    let all : map some picture.modules ≡ map look (range_with_len 0 count) = fill_by_all look (map some picture.modules) count None whole each in
    rw (wide, high, ← all, all-some picture.modules, values-some picture.modules, ← symbol.flat) refl

-- A picture of at most 151 by 151 modules, each row with the height 1, comes back from its BMP at the same paint.
pub read_back : (paint : Paint) (picture : Picture) → IsPaint paint → IsMatrixSymbol picture → picture_of paint (bmp_bytes paint picture) ≡ Ok picture
unfolding bmp_bytes picture_by
read_back paint picture valid symbol =
    let u = unit_of paint in
    let w = painted_width paint picture in
    let h = painted_height paint picture in
    let bytes = bmp_bytes paint picture in
    let header = written_header w h in
    let some : 0 < u = omega (arith, valid.seen) in
    let small : u ≤ 40 = omega (arith, valid.scaled) in
    let is_high : h ≡ u * (row_count picture + 2 * paint.vwhite) = ap (λ rows. u * (rows + 2 * paint.vwhite)) (rows-high paint picture symbol) in
    let few_wide : w ≤ 14040 = side-few u picture.width paint.white small symbol.narrow valid.narrow in
    let few_high : h ≤ 14040 = rw is_high (side-few u (row_count picture) paint.vwhite small symbol.short valid.short) in
    let some_wide : 0 < w = side-some u picture.width paint.white some (omega (arith, symbol.shape.wide)) in
    let some_high : 0 < h = rw is_high (side-some u (row_count picture) paint.vwhite some (omega (arith, symbol.shape.tall))) in
    let long : length bytes ≡ 62 + stride_of paint picture * h = length-bmp paint picture in
    let read : header_of bytes ≡ header = header-written w h (image_size paint picture) (rows_from_bottom paint picture) (omega (arith, few_wide)) (omega (arith, few_high)) in
    let front = front-passes bytes (begins_with_mark w h (image_size paint picture) (rows_from_bottom paint picture)) (omega (arith, long)) ∙ ap (λ header. Ok header) read in
    let fields = fields-pass w h some_wide (omega (arith, few_wide)) some_high (omega (arith, few_high)) in
    let palette = palette-passes w h bytes (omega (arith, long)) in
    let wide_passes : is_side u paint.white 151 w ≡ true = side-passes u picture.width paint.white some (omega (arith, symbol.shape.wide)) symbol.narrow in
    let high_passes : is_side u paint.vwhite 151 h ≡ true = ap (is_side u paint.vwhite 151) is_high ∙ side-passes u (row_count picture) paint.vwhite some (omega (arith, symbol.shape.tall)) symbol.short in
    let sides = sides-pass paint w h (omega (arith, few_high)) wide_passes high_passes in
    let rows = rows-pass w h bytes (omega (arith, few_high)) long in
    let wide : modules_across (sampling_of paint) header ≡ picture.width = side-modules u picture.width paint.white some in
    let high : modules_down (sampling_of paint) header ≡ row_count picture =
    ap (modules_between u paint.vwhite) (high-written w h (omega (arith, few_high)) ∙ is_high) ∙ side-modules u (row_count picture) paint.vwhite some in
    rw (header-passes (sampling_of paint) bytes header front fields palette sides rows)
    (all-seen paint picture header bytes symbol wide high (λ x y inside below. seen-module paint picture x y valid symbol inside below))

-- The BMP of such a picture has few bytes.
pub few-bytes : (paint : Paint) (picture : Picture) → IsPaint paint → IsMatrixSymbol picture → length (bmp_bytes paint picture) ≤ 33554432
few-bytes paint picture valid symbol =
    let u = unit_of paint in
    let small : u ≤ 40 = omega (arith, valid.scaled) in
    let few_wide : painted_width paint picture ≤ 14040 = side-few u picture.width paint.white small symbol.narrow valid.narrow in
    let is_high : painted_height paint picture ≡ u * (row_count picture + 2 * paint.vwhite) = ap (λ rows. u * (rows + 2 * paint.vwhite)) (rows-high paint picture symbol) in
    let few_high : painted_height paint picture ≤ 14040 = rw is_high (side-few u (row_count picture) paint.vwhite small symbol.short valid.short) in
    let stride : stride_of paint picture ≤ 1756 = omega (arith, few_wide) in
    omega (arith, length-bmp paint picture, mul-le (stride_of paint picture) (painted_height paint picture) 1756 14040 stride few_high)
