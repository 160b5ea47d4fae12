-- Codewords of a width, and the bits that they stand for.
use Rattle.std.specs.Prelude.{◌≡◌, ℕ, ◌+◌, ◌-◌, ◌/◌, ◌^◌, ◌<◌, ◌≤◌, ◌⊎◌, ◌==◌, ◌||◌, ◌++◌, Bool, true, List, All, length, take, slice_index, replicate, if◌then◌else◌}
use Rattle.std.specs.List.{flat_map}
use Rattle.bar_base.specs.Bits.{to_bits}
use Rattle.aztec_layout.specs.declared.unstuffing.WordFault.{WordFault}
use Rattle.aztec_layout.specs.declared.unstuffing.WordFault.TheVariants.{BadWord, NoMemory}

-- A codeword has 6, 8, 10 or 12 bits (ISO/IEC 24778, symbol structure).
abbrev pub IsWidth : ℕ → Type 0
IsWidth width = (width ≡ 6) ⊎ (width ≡ 8) ⊎ (width ≡ 10) ⊎ (width ≡ 12)

-- A codeword of data is not all zeros and not all ones (ISO/IEC 24778, bit stuffing).
abbrev pub IsWord : (width word : ℕ) → Type 0
IsWord width word = (0 < word) × (word + 1 < 2 ^ width)

-- Whether the bits of a codeword in front of its last one are all zeros or all ones.
abbrev pub is_alike : (width word : ℕ) → Bool
is_alike width word = (word / 2 == 0) || (word / 2 + 1 == 2 ^ (width - 1))

-- The bits that a codeword carries: all of its bits, or those in front of the last one where they are alike
-- (ISO/IEC 24778, bit stuffing).
abbrev pub taken : (width word : ℕ) → List Bool
taken width word = if is_alike width word then to_bits (width - 1) (word / 2) else to_bits width word

-- The bits that codewords carry, one codeword behind the other.
abbrev pub unstuffed : (width : ℕ) (words : List ℕ) → List Bool
unstuffed width words = flat_map (taken width) words

-- Codewords of data carry bits where unstuffing them gives the bits and, behind them, fewer ones than a codeword has bits
-- (ISO/IEC 24778, bit stuffing).
pub record Carries (width : ℕ) (bits : List Bool) (words : List ℕ) : Type 0 where
  pub each : All (IsWord width) words
  pub ones : ℕ
  pub few : ones < width
  pub whole : unstuffed width words ≡ bits ++ replicate ones true

-- The stuffed codewords of bits: the shortest list that carries them.
pub record IsStuffed (width : ℕ) (bits : List Bool) (words : List ℕ) : Type 0 where
  pub carried : Carries width bits words
  pub shortest : (others : List ℕ) → Carries width bits others → length words ≤ length others

-- The number of stuffed codewords of bits, of which there is one list.
pub record CountsStuffed (width : ℕ) (bits : List Bool) (count : ℕ) : Type 0 where
  pub words : List ℕ
  pub stuffed : IsStuffed width bits words
  pub counted : length words ≡ count
  pub only : (others : List ℕ) → IsStuffed width bits others → length others ≡ count

-- The bits with ones behind them, so many that a whole codeword can be taken from any bit on (ISO/IEC 24778, bit stuffing).
abbrev pub with_ones : (width : ℕ) (bits : List Bool) → List Bool
with_ones width bits = bits ++ replicate width true

-- The codeword at this place, counted from 0, is the first that is all zeros or all ones (ISO/IEC 24778, bit stuffing).
pub record IsFirstBad (width : ℕ) (words : List ℕ) (place : ℕ) : Type 0 where
  pub before : All (IsWord width) (take place words)
  pub within : place < length words
  pub bad : ¬ (IsWord width (slice_index words place))

-- What a refusal to unstuff says: the place of the first codeword that is all zeros or all ones, or that memory is wanting.
abbrev pub IsWordFault : (width : ℕ) (words : List ℕ) → WordFault → Type 0
IsWordFault width words NoMemory = Unit {0}
IsWordFault width words (BadWord place) = IsFirstBad width words place
