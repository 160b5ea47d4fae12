-- The pixels of a BMP that is read: whether one of them is dark.
use Rattle.std.specs.Prelude.{ℕ, Bool, List, ◌+◌, ◌*◌, ◌/◌, ◌%◌, ◌-◌, ◌^◌, ◌==◌, Option, Some, None, slice_index, nat_lt, if◌then◌else◌}
use Rattle.bmp_io.specs.BmpHeader.{colours_of, palette_start, row_start}
use Rattle.bmp_io.specs.declared.bmp_header.BmpHeader.{BmpHeader}

-- whether the blue, green and red from a place on are dark: they sum to less than 384, half of the most
abbrev pub is_dark_at : List ℕ → (place : ℕ) → Bool
is_dark_at bytes place =
    nat_lt (slice_index bytes place + slice_index bytes (place + 1) + slice_index bytes (place + 2)) 384

-- the index of a pixel among the colours, in column p of a row that begins at a byte
abbrev pub colour_index : BmpHeader → List ℕ → (start p : ℕ) → ℕ
colour_index header bytes start p =
    if header.bits == 1 then slice_index bytes (start + p / 8) / 2 ^ (7 - p % 8) % 2
    else slice_index bytes (start + p)

-- whether the colour of an index is dark; none where it is past the palette
abbrev pub colour_of : BmpHeader → List ℕ → (index : ℕ) → Option Bool
colour_of header bytes index =
    if nat_lt index (colours_of header) then Some (is_dark_at bytes (palette_start header + 4 * index)) else None

-- whether the pixel in column p and row q from the top is dark; none where its index is past the palette
unfoldable pub pixel_at : BmpHeader → List ℕ → (p q : ℕ) → Option Bool
pixel_at header bytes p q =
    if header.bits == 24 then Some (is_dark_at bytes (row_start header q + 3 * p))
    else colour_of header bytes (colour_index header bytes (row_start header q) p)
