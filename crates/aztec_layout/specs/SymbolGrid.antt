-- Which modules of a symbol are dark.
use Rattle.std.specs.Prelude.{◌≡◌, ℕ, ◌+◌, ◌*◌, ◌<◌, ◌≤◌, ◌↔◌, ◌⊎◌, ◌++◌, Bool, false, true, List, Some, IsTrue, length, replicate, slice_get, suc}
use Rattle.bar_base.specs.Picture.{Picture, module_at}
use Rattle.aztec_layout.specs.declared.sizes.Size.{Size}
use Rattle.aztec_layout.specs.CoreReading.{AreModeWords, HasFinder}
use Rattle.aztec_layout.specs.ModeMessage.{IsModeMessage, word_bits}
use Rattle.aztec_layout.specs.Core.{is_dark_fixed, mode_place}
use Rattle.aztec_layout.specs.Places.{IsBitPlace, bits_before, centre_of, pairs_on_side}
use Rattle.aztec_layout.specs.Sizes.{codeword_width, lead_bits, side_of}

-- The bits of all data layers: zeros for what is left over, and the codewords (ISO/IEC 24778, data placement).
abbrev pub data_bits : (size : Size) (words : List ℕ) → List Bool
data_bits size words = replicate (lead_bits size) false ++ word_bits (codeword_width size) words

-- The place of a bit of the mode message that is 1.
pub record IsModeDot (full : Bool) (centre : ℕ) (bits : List Bool) (x y : ℕ) : Type 0 where
  pub bit : ℕ
  pub one : slice_get bits bit ≡ Some true
  pub place : (x, y) ≡ mode_place full centre bit

-- The place of a bit of the data layers that is 1.
pub record IsDataDot (size : Size) (bits : List Bool) (x y : ℕ) : Type 0 where
  pub bit : ℕ
  pub one : slice_get bits bit ≡ Some true
  pub place : IsBitPlace size bit x y

-- The same for the bits of one layer.
pub record IsLayerDot (size : Size) (bits : List Bool) (layer x y : ℕ) : Type 0 where
  pub bit : ℕ
  pub from : bits_before size layer ≤ bit
  pub below : bit < bits_before size (suc layer)
  pub one : slice_get bits bit ≡ Some true
  pub place : IsBitPlace size bit x y

-- The same for the bits of one side of a layer.
pub record IsSideDot (size : Size) (bits : List Bool) (layer side x y : ℕ) : Type 0 where
  pub along : ℕ
  pub below : along < 2 * pairs_on_side size layer
  pub one : slice_get bits (bits_before size layer + (side * (2 * pairs_on_side size layer) + along)) ≡ Some true
  pub place : IsBitPlace size (bits_before size layer + (side * (2 * pairs_on_side size layer) + along)) x y

-- The dark modules of a symbol with the words of a mode message and the codewords (ISO/IEC 24778, symbol structure).
abbrev pub IsDark : (size : Size) (modes words : List ℕ) (x y : ℕ) → Type 0
IsDark size modes words x y =
    IsTrue (is_dark_fixed size.full (centre_of size) x y)
    ⊎ IsModeDot size.full (centre_of size) (word_bits 4 modes) x y
    ⊎ IsDataDot size (data_bits size words) x y

-- A square picture of a side, with rows of height 1 (ISO/IEC 24778, symbol structure).
pub record IsSquare (side : ℕ) (picture : Picture) : Type 0 where
  pub width : picture.width ≡ side
  pub heights : picture.heights ≡ replicate side 1
  pub whole : length picture.modules ≡ side * side

-- The picture of the symbol: its modules are dark exactly where they are to be.
pub record IsGridWith (size : Size) (modes words : List ℕ) (picture : Picture) : Type 0 where
  pub square : IsSquare (side_of size) picture
  pub dark : (x y : ℕ) → x < side_of size → y < side_of size →
      (module_at picture x y ≡ Some true) ↔ IsDark size modes words x y

-- The picture of the symbol of a size with `held` data codewords and all its codewords.
pub record IsSymbolGrid (size : Size) (held : ℕ) (words : List ℕ) (picture : Picture) : Type 0 where
  pub modes : List ℕ
  pub message : IsModeMessage size held modes
  pub shown : IsGridWith size modes words picture

-- What a picture of a symbol shows: finder and marks, the words of the mode message at its places, and each data bit at its place.
pub record ShowsAll (size : Size) (held : ℕ) (words : List ℕ) (picture : Picture) : Type 0 where
  pub core : HasFinder size.full picture
  pub modes : List ℕ
  pub message : IsModeMessage size held modes
  pub mode : AreModeWords size.full picture modes
  pub bits : (bit x y : ℕ) → IsBitPlace size bit x y → module_at picture x y ≡ slice_get (data_bits size words) bit
