-- The 36 sizes of an Aztec symbol and their numbers.
use Rattle.std.specs.Prelude.{ℕ, ◌+◌, ◌-◌, ◌*◌, ◌/◌, ◌≤◌, nat_le, min, if◌then◌else◌}
use Rattle.std.specs.Int.{div_ceil}
use Rattle.aztec_layout.specs.declared.sizes.Size.{Size}

-- A size has 1 to 4 layers if compact and 1 to 32 if full (ISO/IEC 24778, symbol structure).
abbrev pub IsSize : Size → Type 0
IsSize size = (1 ≤ size.layers) × (size.layers ≤ (if size.full then 32 else 4))

-- The modules on a side without the reference lines: the core's 11 or 14, and 2 for each layer at both ends
-- (ISO/IEC 24778, symbol structure).
abbrev pub base_side : Size → ℕ
base_side size = (if size.full then 14 else 11) + 4 * size.layers

-- The modules on a side. A full symbol has a reference line through the centre, and 15 modules apart two more for each 15
-- modules that lie beyond it (ISO/IEC 24778, symbol structure).
abbrev pub side_of : Size → ℕ
side_of size = base_side size + (if size.full then 1 + 2 * ((base_side size / 2 - 1) / 15) else 0)

-- The bits of a codeword, by the number of layers (ISO/IEC 24778, symbol structure).
abbrev pub codeword_width : Size → ℕ
codeword_width size =
    if nat_le size.layers 2 then 6 else if nat_le size.layers 8 then 8 else if nat_le size.layers 22 then 10 else 12

-- The bits of all data layers (ISO/IEC 24778, symbol structure).
abbrev pub layer_bits : Size → ℕ
layer_bits size = ((if size.full then 112 else 88) + 16 * size.layers) * size.layers

-- The codewords of a size, of data and check together. The bits that are left over stand in front (ISO/IEC 24778, symbol structure).
abbrev pub codewords_of : Size → ℕ
codewords_of size = layer_bits size / codeword_width size

-- The bits of the data layers that are left over in front of the codewords (ISO/IEC 24778, data placement).
abbrev pub lead_bits : Size → ℕ
lead_bits size = layer_bits size - codewords_of size * codeword_width size

-- The most data codewords at a share of check codewords in percent: all but that share, rounded up, and three more
-- (ISO/IEC 24778, error correction), and at most 64 in a compact symbol, whose mode message has six bits for their number.
abbrev pub holds_of : Size → ℕ → ℕ
holds_of size share =
    let room = codewords_of size - 3 - div_ceil (share * codewords_of size) 100 in
    if size.full then room else min room 64
