-- The module of each data bit.
use Rattle.std.specs.Prelude.{◌≡◌, ℕ, ◌+◌, ◌-◌, ◌*◌, ◌/◌, ◌%◌, ◌<◌, ◌≤◌, nat_lt, ◌==◌, zero, suc, false, List, length, slice_index_or, if◌then◌else◌}
use Rattle.aztec_layout.specs.declared.sizes.Size.{Size}
use Rattle.aztec_layout.specs.Sizes.{base_side, side_of}
use Rattle.aztec_layout.specs.Core.{is_finder, is_dark_mark, is_light_mark, is_reference, mode_place, mode_run}

-- The column or row of the centre (ISO/IEC 24778, symbol structure).
abbrev pub centre_of : Size → ℕ
centre_of size = side_of size / 2

-- The column or row that is number i among those without reference lines. In a full symbol there is a reference line at
-- the centre and after each 15 of them on both sides (ISO/IEC 24778, symbol structure).
abbrev pub data_line : Size → ℕ → ℕ
data_line size i =
    if size.full then
    if nat_lt i (base_side size / 2) then
    (let t = base_side size / 2 - 1 - i in centre_of size - 1 - t - t / 15)
    else (let t = i - base_side size / 2 in centre_of size + 1 + t + t / 15)
    else i

-- A list has the column or row of each of those lines.
pub record AreDataLines (size : Size) (lines : List ℕ) : Type 0 where
  pub room : base_side size ≤ length lines
  pub each : (i : ℕ) → i < base_side size → slice_index_or lines i 0 ≡ data_line size i

-- The pairs of bits on one side of layer i, counted from 0 at the outside (ISO/IEC 24778, data placement).
abbrev pub pairs_on_side : Size → ℕ → ℕ
pairs_on_side size i = 4 * (size.layers - i) + (if size.full then 12 else 9)

-- The bits of the layers outside layer i (ISO/IEC 24778, data placement).
abbrev pub bits_before : Size → ℕ → ℕ
bits_before size zero = 0
bits_before size (suc i) = bits_before size i + 8 * pairs_on_side size i

-- The place of bit k of pair j on one side of a layer, in columns and rows without reference lines. The sides go round
-- the layer: 0 down along the left, 1 to the right along the bottom, 2 up along the right, 3 to the left along the top. Bit 0 of a
-- pair is the outer one (ISO/IEC 24778, data placement).
abbrev pub corner_of : (low high round j k : ℕ) → ℕ × ℕ
corner_of low high round j k =
    if round == 0 then (low + k, low + j)
    else if round == 1 then (low + j, high - k)
    else if round == 2 then (high - k, high - j)
    else (high - j, low + k)

-- The same place for bit n of layer i, whose bits are numbered side by side and pair by pair.
abbrev pub corner_at : Size → ℕ → ℕ → ℕ × ℕ
corner_at size i n =
    let pairs = pairs_on_side size i in
    corner_of (2 * i) (base_side size - 1 - 2 * i) (n / (2 * pairs)) (n % (2 * pairs) / 2) (n % 2)

-- Data bit q, counted from the outside, has its place at column x and row y (ISO/IEC 24778, data placement).
pub record IsBitPlace (size : Size) (q x y : ℕ) : Type 0 where
  pub layer : ℕ
  pub is_layer : layer < size.layers
  pub from : bits_before size layer ≤ q
  pub below : q < bits_before size (suc layer)
  pub column : x ≡ data_line size (corner_at size layer (q - bits_before size layer)).0
  pub row : y ≡ data_line size (corner_at size layer (q - bits_before size layer)).1

-- A module in the symbol that belongs to nothing of the core and of the reference grid (ISO/IEC 24778, symbol structure).
pub record IsDataModule (size : Size) (x y : ℕ) : Type 0 where
  pub column : x < side_of size
  pub row : y < side_of size
  pub finder : is_finder size.full (centre_of size) x y ≡ false
  pub dark_marks : is_dark_mark size.full (centre_of size) x y ≡ false
  pub light_marks : is_light_mark size.full (centre_of size) x y ≡ false
  pub reference : is_reference size.full (centre_of size) x y ≡ false
  pub mode : (t : ℕ) → t < 4 * mode_run size.full → (x, y) ≡ mode_place size.full (centre_of size) t → ⊥
