-- The words of the mode message, as numbers of four bits.
use Rattle.std.specs.Prelude.{◌≡◌, ℕ, ◌+◌, ◌-◌, ◌≤◌, ◌++◌, Bool, false, List, length, take, if◌then◌else◌}
use Rattle.std.specs.List.{flat_map}
use Rattle.bar_base.specs.Bits.{to_bits}
use Rattle.galois.specs.CheckNumbers.{IsCheckWordIn, polynomial_of}
use Rattle.aztec_layout.specs.declared.sizes.Size.{Size}
use Rattle.aztec_layout.specs.Sizes.{codewords_of}

-- The bits of words of a width, the highest bit of each word first (ISO/IEC 24778, data placement).
abbrev pub word_bits : (width : ℕ) (words : List ℕ) → List Bool
word_bits width words = flat_map (to_bits width) words

-- How many words there are in front of the check words, by the kind of symbol (ISO/IEC 24778, mode message).
abbrev pub front_words : Bool → ℕ
front_words full = if full then 4 else 2

-- How many check words there are (ISO/IEC 24778, mode message).
abbrev pub check_words : Bool → ℕ
check_words full = if full then 6 else 5

-- The bits of the mode message: in 2 and 6 bits, or in 5 and 11 in a full symbol, the layers and the data codewords, each less one
-- (ISO/IEC 24778, mode message).
abbrev pub mode_front : (size : Size) (held : ℕ) → List Bool
mode_front size held =
    if size.full then to_bits 5 (size.layers - 1) ++ to_bits 11 (held - 1)
    else to_bits 2 (size.layers - 1) ++ to_bits 6 (held - 1)

-- So many data codewords can be named in the mode message of a size: some, no more than the size has, and at most 64 in a compact
-- symbol, whose mode message has six bits for their number (ISO/IEC 24778, mode message).
pub record CanHold (size : Size) (held : ℕ) : Type 0 where
  pub some : 1 ≤ held
  pub few : held ≤ codewords_of size
  pub compact : size.full ≡ false → held ≤ 64

-- The words of the mode message of a symbol with `held` data codewords: the bits of its front, and check words over the field of 16
-- elements (ISO/IEC 24778, mode message).
pub record IsModeMessage (size : Size) (held : ℕ) (words : List ℕ) : Type 0 where
  pub front : word_bits 4 (take (front_words size.full) words) ≡ mode_front size held
  pub counted : length words ≡ front_words size.full + check_words size.full
  pub coded : IsCheckWordIn 4 (polynomial_of 4) words (check_words size.full)
