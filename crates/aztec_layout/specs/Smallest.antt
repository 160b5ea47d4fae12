-- The smallest allowed size that holds a message, by the numbers of its codewords and by its bits.
use Rattle.std.specs.Prelude.{◌≡◌, ℕ, ◌+◌, ◌-◌, ◌*◌, ◌<◌, ◌≤◌, ◌==◌, min, nat_le, Bool, List, Option, Some, None, length, if◌then◌else◌}
use Rattle.aztec_layout.specs.declared.sizes.Size.{Size}
use Rattle.aztec_layout.specs.declared.allowed.Allowed.{Allowed}
use Rattle.aztec_layout.specs.declared.fitting.Needs.{Needs}
use Rattle.aztec_layout.specs.declared.choice.NoFit.{NoFit}
use Rattle.aztec_layout.specs.Allowed.{IsFirstSize, IsLast, NoSize, allowed_of, counted_share}
use Rattle.aztec_layout.specs.Sizes.{codeword_width, holds_of}
use Rattle.aztec_layout.specs.Stuffing.{CountsStuffed, IsStuffed}

-- The numbers of stuffed codewords of bits at the four widths (ISO/IEC 24778, bit stuffing).
pub record AreNeeds (bits : List Bool) (needs : Needs) : Type 0 where
  pub w6 : CountsStuffed 6 bits needs.w6
  pub w8 : CountsStuffed 8 bits needs.w8
  pub w10 : CountsStuffed 10 bits needs.w10
  pub w12 : CountsStuffed 12 bits needs.w12

-- A number that tells whether stuffed codewords are at most so many (`most`): their number if they are, else a number above that.
pub record CountsUpTo (width : ℕ) (bits : List Bool) (most count : ℕ) : Type 0 where
  pub exact : count ≤ most → CountsStuffed width bits count
  pub more : most < count → (words : List ℕ) → IsStuffed width bits words → most < length words

-- Such numbers at the four widths, up to the codewords of the largest size of each width, of 2, 8, 22 and 32 layers.
pub record AreBoundedNeeds (bits : List Bool) (needs : Needs) : Type 0 where
  pub w6 : CountsUpTo 6 bits 48 needs.w6
  pub w8 : CountsUpTo 8 bits 240 needs.w8
  pub w10 : CountsUpTo 10 bits 1020 needs.w10
  pub w12 : CountsUpTo 12 bits 1664 needs.w12

-- The codewords that data needs at the width of a size.
abbrev pub needed_at : Needs → Size → ℕ
needed_at needs size =
    if nat_le size.layers 2 then needs.w6
    else if nat_le size.layers 8 then needs.w8
    else if nat_le size.layers 22 then needs.w10
    else needs.w12

-- A size holds data of these numbers of codewords where it needs at its width at most what it holds at the share that counts.
abbrev pub HoldsNeeds : Needs → Allowed → Size → Type 0
HoldsNeeds needs allowed size = needed_at needs size ≤ holds_of size (counted_share allowed)

-- Version 0 names no size.
abbrev pub version_named : ℕ → Option ℕ
version_named version = if version == 0 then None else Some version

-- What a share and a version allow: all sizes at the share where the version is 0, else the size that the version names.
abbrev pub allowed_by : (share version : ℕ) → Allowed
allowed_by share version = allowed_of share (version_named version)

-- The number of stuffed codewords of bits at the width of a size (ISO/IEC 24778, bit stuffing).
pub record Takes (bits : List Bool) (size : Size) (count : ℕ) : Type 0 where
  pub words : List ℕ
  pub stuffed : IsStuffed (codeword_width size) bits words
  pub counted : length words ≡ count

-- A size holds bits where their stuffed codewords are at most as many as it holds of data at the share that counts
-- (ISO/IEC 24778, error correction).
pub record HoldsBits (bits : List Bool) (allowed : Allowed) (size : Size) : Type 0 where
  pub count : ℕ
  pub takes : Takes bits size count
  pub enough : count ≤ holds_of size (counted_share allowed)

-- The smallest allowed size that holds the bits: every other one comes after it, by side and compact before full.
abbrev pub IsSmallest : (bits : List Bool) → Allowed → Size → Type 0
IsSmallest bits allowed size = IsFirstSize allowed (HoldsBits bits allowed) size

-- No allowed size holds the bits: the last one needs so many codewords for them, and holds so many.
pub record HasNoFit (bits : List Bool) (allowed : Allowed) (fault : NoFit) : Type 0 where
  pub none : NoSize allowed (HoldsBits bits allowed)
  pub last : IsLast allowed fault.last
  pub takes : Takes bits fault.last fault.needed
  pub holds : fault.held ≡ holds_of fault.last (counted_share allowed)

-- The place of a size in the order of sizes, counted from 0.
abbrev pub rank_of : Size → ℕ
rank_of size = if size.full then min (2 * size.layers) (size.layers + 3) else 2 * size.layers - 3
