-- The bytes of a BMP of a picture: its header, a palette of two colours, and rows of pixels from the bottom (the BMP
-- format: BITMAPFILEHEADER, BITMAPINFOHEADER, palette, pixel array).
use Rattle.std.specs.Prelude.{ℕ, List, [], ◌∷◌, ◌++◌, ◌+◌, ◌*◌, ◌/◌, codes, reverse, slice_index_or}
use Rattle.std.specs.List.{flat_map, range_with_len}
use Rattle.byteorder.specs.Endian.{little_bytes}
use Rattle.bar_base.specs.Paint.{unit_of, painted_width, painted_height, painted_rows}
use Rattle.bar_base.specs.Picture.{Picture}
use Rattle.bar_base.specs.declared.paint.Paint.{Paint}
use Rattle.bmp_io.specs.Pixels.{pixel_row}

-- the bytes of a row of pixels, filled to a multiple of 4
abbrev pub stride_of : Paint → Picture → ℕ
stride_of paint picture = (painted_width paint picture + 31) / 32 * 4

-- the bytes of all rows of pixels
abbrev pub image_size : Paint → Picture → ℕ
image_size paint picture = stride_of paint picture * painted_height paint picture

-- the bytes of the file
abbrev pub file_size : Paint → Picture → ℕ
file_size paint picture = 62 + image_size paint picture

-- what the file is, its size, and where its pixels begin
unfoldable pub file_header : (size : ℕ) → List ℕ
file_header size = codes "BM" ++ little_bytes 4 size ++ little_bytes 4 0 ++ little_bytes 4 62

-- the size of this header, the width and height in pixels, one plane, one bit a pixel, no compression, the bytes of
-- the pixels, 2835 pixels a metre (72 an inch) both ways, two colours, both needed
unfoldable pub picture_header : (width height size : ℕ) → List ℕ
picture_header width height size =
    little_bytes 4 40 ++ little_bytes 4 width ++ little_bytes 4 height ++ little_bytes 2 1 ++ little_bytes 2 1
    ++ little_bytes 4 0 ++ little_bytes 4 size ++ little_bytes 4 2835 ++ little_bytes 4 2835 ++ little_bytes 4 2 ++ little_bytes 4 2

-- the colours of the bits 0 and 1, as blue, green, red and a byte that is not used: white and black
abbrev pub palette : List ℕ
palette = 255 ∷ 255 ∷ 255 ∷ 0 ∷ 0 ∷ 0 ∷ 0 ∷ 0 ∷ []

-- all that stands before the pixels
unfoldable pub bytes_before_pixels : (width height size : ℕ) → List ℕ
bytes_before_pixels width height size = file_header (62 + size) ++ picture_header width height size ++ palette

-- the row of pixels at `q` from the top: it shows the row of modules that stands there, found by division
unfoldable pub row_at : Paint → Picture → (q : ℕ) → List ℕ
row_at paint picture q =
    pixel_row paint (stride_of paint picture) (slice_index_or (painted_rows paint picture) (q / unit_of paint) [])

-- the rows of pixels from the bottom
unfoldable pub rows_from_bottom : Paint → Picture → List ℕ
rows_from_bottom paint picture =
    flat_map (row_at paint picture) (reverse (range_with_len 0 (painted_height paint picture)))

-- the bytes of the BMP
unfoldable pub bmp_bytes : Paint → Picture → List ℕ
bmp_bytes paint picture =
    bytes_before_pixels (painted_width paint picture) (painted_height paint picture) (image_size paint picture)
    ++ rows_from_bottom paint picture
