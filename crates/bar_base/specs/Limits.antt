-- How long an input may be, in bytes.
use Rattle.std.specs.Prelude.{ℕ}

-- the most bytes of data, and of the text of a grid
abbrev pub most_bytes : ℕ
most_bytes = 65536

-- the most bytes of a BMP picture
abbrev pub most_bmp_bytes : ℕ
most_bmp_bytes = 33554432
