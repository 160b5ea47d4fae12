-- The codewords that a picture shows at the places of the data bits.
use Rattle.std.specs.Prelude.{◌≡◌, ℕ, ◌+◌, ◌*◌, ◌^◌, ◌<◌, List, All, length, slice_get}
use Rattle.bar_base.specs.Bits.{to_bits}
use Rattle.bar_base.specs.Picture.{Picture, module_at, row_count}
use Rattle.aztec_layout.specs.declared.sizes.Size.{Size}
use Rattle.aztec_layout.specs.ModeMessage.{word_bits}
use Rattle.aztec_layout.specs.Places.{IsBitPlace}
use Rattle.aztec_layout.specs.Sizes.{IsSize, codeword_width, codewords_of, lead_bits, side_of}

-- A square picture with the side of a size (ISO/IEC 24778, symbol structure).
pub record HasSide (picture : Picture) (size : Size) : Type 0 where
  pub sized : IsSize size
  pub width : picture.width ≡ side_of size
  pub rows : row_count picture ≡ side_of size

-- The codewords, data and check, whose bits are the modules at their places in a picture (ISO/IEC 24778, data placement).
pub record AreCodewords (size : Size) (picture : Picture) (words : List ℕ) : Type 0 where
  pub counted : length words ≡ codewords_of size
  pub each : All (λ word. word < 2 ^ codeword_width size) words
  pub bits : (t x y : ℕ) → t < codewords_of size * codeword_width size → IsBitPlace size (lead_bits size + t) x y
      → module_at picture x y ≡ slice_get (word_bits (codeword_width size) words) t

-- The number whose bits are the modules at so many places from a bit on.
pub record ShowsNumber (size : Size) (picture : Picture) (first count number : ℕ) : Type 0 where
  pub below : number < 2 ^ count
  pub bits : (i x y : ℕ) → i < count → IsBitPlace size (first + i) x y → module_at picture x y ≡ slice_get (to_bits count number) i
