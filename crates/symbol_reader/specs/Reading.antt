-- What a picture reads as, and why it is not read (ISO/IEC 24778, reference decode algorithm).
use Rattle.std.specs.Prelude.{◌≡◌, ℕ, ◌-◌, false, Bool, List, All, Option, MatchOption, take}
use Rattle.bar_base.specs.Picture.{Picture, row_count}
use Rattle.galois.specs.CheckNumbers.{IsNearIn, known_apart, polynomial_of}
use Rattle.galois.specs.CheckWord.{lost_count}
use Rattle.aztec_layout.specs.declared.sizes.Size.{Size}
use Rattle.aztec_layout.specs.DataReading.{HasSide}
use Rattle.aztec_layout.specs.ModeMessage.{CanHold, IsModeMessage, check_words}
use Rattle.aztec_layout.specs.Sizes.{codeword_width, codewords_of}
use Rattle.aztec_layout.specs.Stuffing.{IsFirstBad, IsWord, unstuffed}
use Rattle.aztec_modes.specs.Reading.{IsBadAt, IsReading}
use Rattle.symbol_reader.specs.Correction.{HasNoneNear, IsOnlyNear}
use Rattle.symbol_reader.specs.declared.grid_fault.GridFault.{GridFault}
use Rattle.symbol_reader.specs.declared.grid_fault.GridFault.TheVariants.{NoMemory, BadSide, NoFinder, BadMode, TooDamaged, BadSpelling, BadWord}
use Rattle.symbol_reader.specs.Sight.{AreSeenCodewords, AreSeenModes, IsFirstWrong, Sight, StandsIn, known, sight_of}
use Rattle.symbol_reader.specs.declared.reading.LostReading.{LostReading}
use Rattle.symbol_reader.specs.declared.reading.Reading.{Reading}
use Rattle.symbol_reader.specs.declared.unknown.Unknown.{Unknown}

-- The size whose side a picture has, and whose finder and orientation marks stand in it, all known (ISO/IEC 24778, symbol
-- structure).
pub record IsFound (sight : Sight) (size : Size) : Type 0 where
  pub side : HasSide sight.picture size
  pub finder : StandsIn size.full sight

-- No finder stands in a picture. The module that is named is the first one that differs from the compact finder, or is
-- unknown, where a compact size has the picture's side, else the first one of the full finder.
pub record HasNoFinder (sight : Sight) (x y : ℕ) : Type 0 where
  pub none : (size : Size) → IsFound sight size → ⊥
  pub size : Size
  pub side : HasSide sight.picture size
  pub compact : (other : Size) → HasSide sight.picture other → other.full ≡ false → size.full ≡ false
  pub first : IsFirstWrong size.full sight x y

-- The mode words of a picture, corrected, name its size and so many data codewords (ISO/IEC 24778, mode message).
pub record IsMode (sight : Sight) (size : Size) (held : ℕ) : Type 0 where
  pub found : IsFound sight size
  pub words : List ℕ
  pub lost : List Bool
  pub seen : AreSeenModes size.full sight words lost
  pub mode : List ℕ
  pub corrected : IsOnlyNear 4 (polynomial_of 4) (check_words size.full) lost words mode
  pub message : IsModeMessage size held mode
  pub can_hold : CanHold size held

-- The mode words of a picture are near no mode message of its size (ISO/IEC 24778, mode message).
pub record HasBadMode (sight : Sight) (words : List ℕ) : Type 0 where
  pub size : Size
  pub found : IsFound sight size
  pub lost : List Bool
  pub seen : AreSeenModes size.full sight words lost
  pub none : (held : ℕ) (mode : List ℕ) → CanHold size held → IsModeMessage size held mode
      → IsNearIn 4 (polynomial_of 4) (check_words size.full) lost words mode → ⊥

-- What is bad in the mode message of a picture: its words, where they are near none of its size (ISO/IEC 24778, mode message).
abbrev pub IsBadModeOf : Sight → Option (List ℕ) → Type 0
IsBadModeOf sight bad = MatchOption bad ((words : List ℕ) → HasBadMode sight words → ⊥) (HasBadMode sight)

-- The codewords of a picture, corrected, and how many of them were wrong and how many lost (ISO/IEC 24778, error correction).
pub record AreCorrected (sight : Sight) (size : Size) (held : ℕ) (codewords : List ℕ) (errors gone : ℕ) : Type 0 where
  pub mode : IsMode sight size held
  pub words : List ℕ
  pub lost : List Bool
  pub seen : AreSeenCodewords size sight words lost
  pub corrected :
      IsOnlyNear (codeword_width size) (polynomial_of (codeword_width size)) (codewords_of size - held) lost words codewords
  pub counted : errors ≡ known_apart lost words codewords
  pub gone_are : gone ≡ lost_count lost

-- Too many of the codewords of a picture are wrong or lost: no check word is near them (ISO/IEC 24778, error correction).
pub record HasDamage (sight : Sight) (count check : ℕ) : Type 0 where
  pub size : Size
  pub held : ℕ
  pub mode : IsMode sight size held
  pub words : List ℕ
  pub lost : List Bool
  pub seen : AreSeenCodewords size sight words lost
  pub none : HasNoneNear (codeword_width size) (polynomial_of (codeword_width size)) (codewords_of size - held) lost words
  pub count_is : count ≡ codewords_of size
  pub check_is : check ≡ codewords_of size - held

-- A data codeword is all zeros or all ones; the first of them (ISO/IEC 24778, bit stuffing).
pub record HasBadWord (sight : Sight) (place : ℕ) : Type 0 where
  pub size : Size
  pub held : ℕ
  pub codewords : List ℕ
  pub errors : ℕ
  pub gone : ℕ
  pub corrected : AreCorrected sight size held codewords errors gone
  pub bad : IsFirstBad (codeword_width size) (take held codewords) place

-- The bits that the data codewords carry have no reading (ISO/IEC 24778, Character encodation).
pub record HasBadSpelling (sight : Sight) (place : ℕ) : Type 0 where
  pub size : Size
  pub held : ℕ
  pub codewords : List ℕ
  pub errors : ℕ
  pub gone : ℕ
  pub corrected : AreCorrected sight size held codewords errors gone
  pub good : All (IsWord (codeword_width size)) (take held codewords)
  pub bad : IsBadAt (codeword_width size) (unstuffed (codeword_width size) (take held codewords)) place

-- What a picture of which some modules may be unknown reads as: the bits that its data codewords carry, once corrected, read
-- as the message; so many codewords were lost (ISO/IEC 24778, reference decode algorithm).
pub record IsReadingIn (sight : Sight) (reading : Reading) (gone : ℕ) : Type 0 where
  pub codewords : List ℕ
  pub corrected : AreCorrected sight reading.size reading.held codewords reading.corrected gone
  pub good : All (IsWord (codeword_width reading.size)) (take reading.held codewords)
  pub message :
      IsReading (codeword_width reading.size) (unstuffed (codeword_width reading.size) (take reading.held codewords))
      reading.message
  pub check : reading.check ≡ codewords_of reading.size - reading.held

-- What a picture reads as whose modules are all known (ISO/IEC 24778, reference decode algorithm).
abbrev pub IsReadingOf : Picture → Reading → Type 0
IsReadingOf picture reading = IsReadingIn (known picture) reading 0

-- What a picture with unknown modules reads as (ISO/IEC 24778, reference decode algorithm).
abbrev pub IsLostReadingOf : Unknown → LostReading → Type 0
IsLostReadingOf unknown read = IsReadingIn (sight_of unknown) read.reading read.lost

-- What a refusal to read says of a picture. That memory is wanting says no more.
abbrev pub IsFaultIn : Sight → GridFault → Type 0
IsFaultIn sight NoMemory = Unit {0}
IsFaultIn sight (BadSide width rows) =
    (width ≡ sight.picture.width) × (rows ≡ row_count sight.picture) × ((size : Size) → HasSide sight.picture size → ⊥)
IsFaultIn sight (NoFinder x y) = HasNoFinder sight x y
IsFaultIn sight (BadMode words) = HasBadMode sight words
IsFaultIn sight (TooDamaged count check) = HasDamage sight count check
IsFaultIn sight (BadSpelling place) = HasBadSpelling sight place
IsFaultIn sight (BadWord place) = HasBadWord sight place

-- The same of a picture whose modules are all known.
abbrev pub IsGridFault : Picture → GridFault → Type 0
IsGridFault picture = IsFaultIn (known picture)
