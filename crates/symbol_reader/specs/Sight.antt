-- A picture of which some modules are unknown, and what it shows.
use Rattle.std.specs.Prelude.{◌≡◌, ◌⊎◌, ℕ, ◌==◌, ◌<◌, ◌&&◌, ◌||◌, nat_lt, not, Bool, Option, Some, None, if◌then◌else◌, List, [], ◌∷◌}
use Rattle.bar_base.specs.Picture.{Picture, row_count}
use Rattle.aztec_layout.specs.declared.sizes.Size.{Size}
use Rattle.aztec_layout.specs.CoreReading.{Agrees, AreModeWords, Differs, HasFinder}
use Rattle.aztec_layout.specs.DataReading.{AreCodewords}
use Rattle.symbol_reader.specs.declared.seen.Seen.{Seen}
use Rattle.symbol_reader.specs.declared.unknown.Unknown.{Unknown}

-- A picture twice: with its unknown modules light, as it is read, and with them dark. What is the same in both is known.
pub record Sight : Type 0 where
  pub picture : Picture
  pub dark : Picture

-- a picture whose modules are all known
abbrev pub known : Picture → Sight
known picture = record { picture = picture; dark = picture }

-- modules that are dark in one of two lists
unfoldable pub dark_in_either : List Bool → List Bool → List Bool
dark_in_either [] _ = []
dark_in_either (a ∷ modules) [] = []
dark_in_either (a ∷ modules) (b ∷ others) = (a || b) ∷ dark_in_either modules others

-- the picture in which the modules that another one has dark are dark too
abbrev pub darkened : Picture → Picture → Picture
darkened picture lost = record picture { modules = dark_in_either picture.modules lost.modules }

-- a picture with its unknown modules, those that are dark in `lost`
abbrev pub sight_of : Unknown → Sight
sight_of unknown = record { picture = unknown.grid; dark = darkened unknown.grid unknown.lost }

-- the same, as the code holds it
abbrev pub seen_sight : Seen → Sight
seen_sight seen = record { picture = seen.grid.now; dark = seen.dark.now }

-- Finder and orientation marks stand, and all their modules are known: they stand in both pictures, which have the same sides
-- (ISO/IEC 24778, symbol structure).
pub record StandsIn (full : Bool) (sight : Sight) : Type 0 where
  pub stands : HasFinder full sight.picture
  pub stands_dark : HasFinder full sight.dark
  pub width : sight.dark.width ≡ sight.picture.width
  pub rows : row_count sight.dark ≡ row_count sight.picture

-- A module of finder and marks is as it is to be, and known.
abbrev pub IsRightAt : (full : Bool) (sight : Sight) (x y : ℕ) → Type 0
IsRightAt full sight x y = Agrees full sight.picture x y × Agrees full sight.dark x y

-- The first module of finder and marks that differs or is unknown, row by row from the top, each row from the left.
pub record IsFirstWrong (full : Bool) (sight : Sight) (x y : ℕ) : Type 0 where
  pub column : x < sight.picture.width
  pub row : y < row_count sight.picture
  pub wrong : Differs full sight.picture x y ⊎ Differs full sight.dark x y
  pub above : (a b : ℕ) → a < sight.picture.width → b < y → IsRightAt full sight a b
  pub before : (a : ℕ) → a < x → IsRightAt full sight a y

-- whether a place comes before another one, row by row from the top, each row from the left
abbrev pub is_earlier : (x y a b : ℕ) → Bool
is_earlier x y a b = nat_lt y b || ((y == b) && nat_lt x a)

-- the earlier of two places, where there are any
unfoldable pub earlier_of : Option (ℕ × ℕ) → Option (ℕ × ℕ) → Option (ℕ × ℕ)
earlier_of None other = other
earlier_of (Some place) None = Some place
earlier_of (Some place) (Some other) = if is_earlier other.0 other.1 place.0 place.1 then Some other else Some place

-- Which of two lists of words are not the same: those of a word with an unknown bit, where the words are read with the
-- unknown modules light and with them dark.
unfoldable pub lost_between : List ℕ → List ℕ → List Bool
lost_between [] _ = []
lost_between (word ∷ words) [] = []
lost_between (word ∷ words) (other ∷ others) = not (word == other) ∷ lost_between words others

-- The mode words that are read, and which of them are lost: those with an unknown module (ISO/IEC 24778, mode message).
pub record AreSeenModes (full : Bool) (sight : Sight) (words : List ℕ) (lost : List Bool) : Type 0 where
  pub shown : AreModeWords full sight.picture words
  pub others : List ℕ
  pub shown_dark : AreModeWords full sight.dark others
  pub lost_are : lost ≡ lost_between words others

-- The codewords that are read, and which of them are lost: those with an unknown module (ISO/IEC 24778, data placement).
pub record AreSeenCodewords (size : Size) (sight : Sight) (words : List ℕ) (lost : List Bool) : Type 0 where
  pub shown : AreCodewords size sight.picture words
  pub others : List ℕ
  pub shown_dark : AreCodewords size sight.dark others
  pub lost_are : lost ≡ lost_between words others
