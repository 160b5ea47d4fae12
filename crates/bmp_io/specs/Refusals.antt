-- The tests of a BMP that is read, in their order but for the last one.
use Rattle.std.specs.Prelude.{◌≡◌, ℕ, Bool, true, List, ◌+◌, ◌*◌, ◌/◌, ◌%◌, ◌^◌, ◌==◌, ◌&&◌, ◌||◌, Option, Some, None, Result, Ok, Err, length, nat_eq, nat_lt, nat_le, not, codes, if◌then◌else◌}
use Rattle.std.specs.List.{starts_with}
use Rattle.bar_base.specs.Results.{◌>>=◌}
use Rattle.bmp_io.specs.BmpHeader.{header_of, pixels_high, colours_of, palette_start, row_size}
use Rattle.bmp_io.specs.declared.bmp_header.BmpHeader.{BmpHeader}
use Rattle.bmp_io.specs.declared.fault.BmpFault.{BmpFault}
use Rattle.bmp_io.specs.declared.fault.BmpFault.TheVariants.{NoMemory, NotBmp, Unsupported, Truncated, BadSize}
use Rattle.bmp_io.specs.declared.fault.BmpField.TheVariants.{Header, Planes, Bits, Compression, Width, Height, Palette}
use Rattle.bmp_io.specs.declared.sampling.Sampling.{Sampling}

-- a test, and the refusal where it fails
abbrev pub verdict : Bool → BmpFault → Result (Unit {0}) BmpFault
verdict passes refusal = if passes then Ok tt else Err refusal

-- which faults are refusals: want of memory is none
abbrev pub bmp_refusal : BmpFault → Option BmpFault
bmp_refusal NoMemory = None
bmp_refusal NotBmp = Some NotBmp
bmp_refusal (Unsupported field) = Some (Unsupported field)
bmp_refusal (Truncated length) = Some (Truncated length)
bmp_refusal (BadSize width height) = Some (BadSize width height)

-- the file does not end before the byte `end`
abbrev pub length_test : List ℕ → (end : ℕ) → Result (Unit {0}) BmpFault
length_test bytes end = verdict (nat_le end (length bytes)) (Truncated (length bytes))

-- the header of a file that begins with BM and has at least 54 bytes
unfoldable pub front_read : List ℕ → Result BmpHeader BmpFault
front_read bytes = do
  marked ← verdict (starts_with nat_eq bytes (codes "BM")) NotBmp
  long ← length_test bytes 54
  Ok (header_of bytes)

-- the sizes of the headers that are read: of a BITMAPINFOHEADER, and of its versions 4 and 5
abbrev pub is_read_size : ℕ → Bool
is_read_size size = (size == 40) || (size == 108) || (size == 124)

-- how many bits a pixel has in the files that are read
abbrev pub is_read_depth : ℕ → Bool
is_read_depth bits = (bits == 1) || (bits == 8) || (bits == 24)

-- the width is above 0; one of 2 ^ 31 and more stands for a number below zero
abbrev pub is_read_width : ℕ → Bool
is_read_width width = nat_lt 0 width && nat_lt width 2147483648

-- the height is not 0, and not the number below zero that has no opposite
abbrev pub is_read_height : ℕ → Bool
is_read_height height = not (height == 0) && not (height == 2147483648)

-- no more colours than the bits of a pixel can name
abbrev pub names_colours : BmpHeader → Bool
names_colours header = (header.bits == 24) || nat_le header.colours (2 ^ header.bits)

-- the fields, each with the values that are read
unfoldable pub fields_test : BmpHeader → Result (Unit {0}) BmpFault
fields_test header = do
  size ← verdict (is_read_size header.size) (Unsupported Header)
  planes ← verdict (header.planes == 1) (Unsupported Planes)
  bits ← verdict (is_read_depth header.bits) (Unsupported Bits)
  compression ← verdict (header.compression == 0) (Unsupported Compression)
  width ← verdict (is_read_width header.width) (Unsupported Width)
  height ← verdict (is_read_height header.height) (Unsupported Height)
  verdict (names_colours header) (Unsupported Palette)

-- the header and the palette stand in the file
unfoldable pub palette_test : BmpHeader → List ℕ → Result (Unit {0}) BmpFault
palette_test header bytes = length_test bytes (palette_start header + 4 * colours_of header)

-- the pixels are whole modules: the white space on both sides, and 1 to so many modules between
abbrev pub is_side : (unit white most pixels : ℕ) → Bool
is_side unit white most pixels =
    (pixels % unit == 0) && nat_lt (2 * white) (pixels / unit) && nat_le (pixels / unit) (2 * white + most)

-- both sides of the picture
unfoldable pub size_test : Sampling → BmpHeader → Result (Unit {0}) BmpFault
size_test sampling header =
    verdict
    (is_side sampling.unit sampling.white sampling.most header.width
    && is_side sampling.unit sampling.vwhite sampling.most (pixels_high header))
    (BadSize header.width (pixels_high header))

-- the rows stand in the file
unfoldable pub rows_test : BmpHeader → List ℕ → Result (Unit {0}) BmpFault
rows_test header bytes = length_test bytes (header.pixels + row_size header * pixels_high header)

-- the header of a file that passes all these tests, or the refusal of the first that it fails
unfoldable pub header_read : Sampling → List ℕ → Result BmpHeader BmpFault
header_read sampling bytes = do
  header ← front_read bytes
  fields ← fields_test header
  palette ← palette_test header bytes
  sides ← size_test sampling header
  rows ← rows_test header bytes
  Ok header

-- Both sides of the picture are whole modules, no more of them between the white space than are read.
pub record HasSides (sampling : Sampling) (header : BmpHeader) : Type 0 where
  pub across : is_side sampling.unit sampling.white sampling.most header.width ≡ true
  pub down : is_side sampling.unit sampling.vwhite sampling.most (pixels_high header) ≡ true
