-- The header that is written, read back.
use Rattle.std.proofs.Common.{◌≡◌, ℕ, ◌^◌, ◌<◌, ◌≤◌, ◌==◌, true, false, List, [], ◌++◌, codes, length, nat_eq, nat_lt, nat_le, Ok, refl, ap, ◌∙◌, arith}
use Rattle.std.specs.List.{starts_with}
use Rattle.std.proofs.lemmas.Bool.Decides.{nat_tests}
use Rattle.byteorder.specs.Numbers.{little_number-reads_back}
use Rattle.byteorder.specs.Endian.{little_number, little_bytes}
use Rattle.bmp_io.specs.declared.sampling.Sampling.{Sampling}
use Rattle.bmp_io.specs.declared.bmp_header.BmpHeader.{BmpHeader}
use Rattle.bmp_io.specs.Bmp.{file_header, picture_header, bytes_before_pixels}
use Rattle.bmp_io.specs.BmpHeader.{field_at, header_of, pixels_high}
use Rattle.bmp_io.specs.Refusals.{front_read, fields_test, palette_test, size_test, rows_test, header_read}

-- what the header of a written file says
abbrev pub written_header : (width height : ℕ) → BmpHeader
written_header width height = record { pixels = 62; size = 40; width = width; height = height; planes = 1; bits = 1; compression = 0; colours = 2 }

pub header-written : (width height size : ℕ) (rows : List ℕ) → width < 256 ^ 4 → height < 256 ^ 4 → header_of (bytes_before_pixels width height size ++ rows) ≡ written_header width height
unfolding header_of field_at bytes_before_pixels file_header picture_header
header-written width height size rows small low =
    let wide = little_number-reads_back 4 width [] small in
    let high = little_number-reads_back 4 height [] low in
    ap (λ width. written_header width (little_number 4 (little_bytes 4 height ++ []))) wide ∙ ap (written_header width) high

pub length-before_pixels : (width height size : ℕ) → length (bytes_before_pixels width height size) ≡ 62
unfolding bytes_before_pixels file_header picture_header
length-before_pixels width height size = refl

-- the first two bytes
pub begins_with_mark : (width height size : ℕ) (rows : List ℕ) → starts_with nat_eq (bytes_before_pixels width height size ++ rows) (codes "BM") ≡ true
unfolding bytes_before_pixels file_header
begins_with_mark width height size rows = refl

-- The tests pass.
pub front-passes : (bytes : List ℕ) → starts_with nat_eq bytes (codes "BM") ≡ true → 54 ≤ length bytes → front_read bytes ≡ Ok (header_of bytes)
unfolding front_read
front-passes bytes marked long =
    let enough : nat_le 54 (length bytes) ≡ true = grind (arith, nat_tests) in
    rw (marked, enough) refl

pub fields-pass : (width height : ℕ) → 0 < width → width < 2147483648 → 0 < height → height < 2147483648 → fields_test (written_header width height) ≡ Ok tt
unfolding fields_test
fields-pass width height some small some_lines low =
    let some_width : nat_lt 0 width ≡ true = grind (arith, nat_tests) in
    let few_wide : nat_lt width 2147483648 ≡ true = grind (arith, nat_tests) in
    let some_height : (height == 0) ≡ false = grind (arith, nat_tests) in
    let no_least : (height == 2147483648) ≡ false = grind (arith, nat_tests) in
    rw (some_width, few_wide, some_height, no_least) refl

pub palette-passes : (width height : ℕ) (bytes : List ℕ) → 62 ≤ length bytes → palette_test (written_header width height) bytes ≡ Ok tt
unfolding palette_test
palette-passes width height bytes long =
    let enough : nat_le 62 (length bytes) ≡ true = grind (arith, nat_tests) in
    rw enough refl

pub high-written : (width height : ℕ) → height < 2147483648 → pixels_high (written_header width height) ≡ height
high-written width height low = grind (arith, nat_tests)

-- all tests passed
pub header-passes : (sampling : Sampling) (bytes : List ℕ) (header : BmpHeader) → front_read bytes ≡ Ok header → fields_test header ≡ Ok tt → palette_test header bytes ≡ Ok tt
    → size_test sampling header ≡ Ok tt → rows_test header bytes ≡ Ok tt → header_read sampling bytes ≡ Ok header
unfolding header_read
header-passes sampling bytes header front fields palette sides rows = rw (front, fields, palette, sides, rows) refl
