-- The damage of a drawn symbol.
use Rattle.std.specs.Prelude.{◌≡◌, ℕ, ◌+◌, ◌-◌, ◌*◌, ◌/◌, ◌<◌, ◌≤◌, not, List, length, option_map}
use Rattle.bar_base.specs.Picture.{Picture, module_at, row_count}
use Rattle.galois.specs.CheckNumbers.{apart}
use Rattle.aztec_layout.specs.declared.sizes.Size.{Size}
use Rattle.aztec_layout.specs.DataReading.{AreCodewords}
use Rattle.aztec_layout.specs.Places.{IsBitPlace}
use Rattle.aztec_layout.specs.Sizes.{codeword_width, codewords_of, lead_bits}

-- How many codewords of a symbol with `held` data codewords are damaged: half as many as there are check codewords,
-- rounded down. So many can be repaired (ISO/IEC 24778, error correction).
abbrev pub damage_of : (size : Size) (held : ℕ) → ℕ
damage_of size held = (codewords_of size - held) / 2

-- The module of the first bit of a codeword (ISO/IEC 24778, data placement).
abbrev pub IsFirstBit : (size : Size) (codeword x y : ℕ) → Type 0
IsFirstBit size codeword x y = IsBitPlace size (lead_bits size + codeword * codeword_width size) x y

-- The module of the first bit of one of `count` codewords that are `step` apart, from codeword 0 on.
abbrev pub IsSpacedFirstBit : (size : Size) (step count x y : ℕ) → Type 0
IsSpacedFirstBit size step count x y = (i : ℕ) × (i < count) × IsFirstBit size (i * step) x y

-- A picture is the old one with these modules turned, light for dark and dark for light.
pub record IsTurned (old new : Picture) (IsTurnedPlace : ℕ → ℕ → Type 0) : Type 0 where
  pub width : new.width ≡ old.width
  pub heights : new.heights ≡ old.heights
  pub whole : length new.modules ≡ length old.modules
  pub turned : (x y : ℕ) → x < old.width → y < row_count old → IsTurnedPlace x y
      → module_at new x y ≡ option_map not (module_at old x y)
  pub kept : (x y : ℕ) → x < old.width → y < row_count old → ¬ (IsTurnedPlace x y) → module_at new x y ≡ module_at old x y

-- The picture of a symbol, damaged: in as many codewords as can be repaired, evenly apart from the first one on, the
-- module of the first bit is turned.
abbrev pub IsDamaged : (size : Size) (held : ℕ) (drawn picture : Picture) → Type 0
IsDamaged size held drawn picture =
    let count = damage_of size held in
    IsTurned drawn picture (IsSpacedFirstBit size (codewords_of size / count) count)

-- A picture shows codewords of which at most so many differ from these.
pub record ShowsCodewordsNear (size : Size) (picture : Picture) (codewords : List ℕ) (count : ℕ) : Type 0 where
  pub words : List ℕ
  pub shown : AreCodewords size picture words
  pub near : apart words codewords ≤ count
