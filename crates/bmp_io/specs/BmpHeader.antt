-- What the header of a BMP says (the BMP format: BITMAPFILEHEADER, BITMAPINFOHEADER and its later versions).
use Rattle.std.specs.Prelude.{◌≡◌, ℕ, Bool, List, ◌+◌, ◌-◌, ◌*◌, ◌/◌, ◌^◌, ◌==◌, ◌≤◌, ◌⊎◌, drop, length, nat_le, if◌then◌else◌}
use Rattle.byteorder.specs.Endian.{little_number}
use Rattle.bmp_io.specs.declared.bmp_header.BmpHeader.{BmpHeader}

-- the number in so many bytes from a place on, its low byte first
unfoldable pub field_at : List ℕ → (place count : ℕ) → ℕ
field_at bytes place count = little_number count (drop place bytes)

-- the fields of the header that are looked at
unfoldable pub header_of : List ℕ → BmpHeader
header_of bytes = record {
  pixels = field_at bytes 10 4;
  size = field_at bytes 14 4;
  width = field_at bytes 18 4;
  height = field_at bytes 22 4;
  planes = field_at bytes 26 2;
  bits = field_at bytes 28 2;
  compression = field_at bytes 30 4;
  colours = field_at bytes 46 4;
}

-- a height of 2 ^ 31 and more stands for a number below zero: the rows go from the top
abbrev pub is_from_top : BmpHeader → Bool
is_from_top header = nat_le 2147483648 header.height

-- the height in pixels, without its sign
abbrev pub pixels_high : BmpHeader → ℕ
pixels_high header = if is_from_top header then 4294967296 - header.height else header.height

-- the colours of the palette: a file of 24 bits has none, and no number of them means all
abbrev pub colours_of : BmpHeader → ℕ
colours_of header = if header.bits == 24 then 0 else (if header.colours == 0 then 2 ^ header.bits else header.colours)

-- the byte at which the palette begins
abbrev pub palette_start : BmpHeader → ℕ
palette_start header = 14 + header.size

-- the bytes of a row of pixels, filled to a multiple of 4
abbrev pub row_size : BmpHeader → ℕ
row_size header = (header.width * header.bits + 31) / 32 * 4

-- the byte at which the row at `q` from the top begins
abbrev pub row_start : BmpHeader → (q : ℕ) → ℕ
row_start header q = header.pixels + row_size header * (if is_from_top header then q else pixels_high header - 1 - q)

-- What the tests leave: the palette and the rows stand in the file, and the picture is not large.
pub record IsWhole (header : BmpHeader) (bytes : List ℕ) : Type 0 where
  pub bits : (header.bits ≡ 1) ⊎ (header.bits ≡ 8) ⊎ (header.bits ≡ 24)
  pub size : header.size ≤ 124
  pub colours : colours_of header ≤ 256
  pub palette : palette_start header + 4 * colours_of header ≤ length bytes
  pub wide : header.width ≤ 48960
  pub high : pixels_high header ≤ 48960
  pub rows : header.pixels + row_size header * pixels_high header ≤ length bytes
