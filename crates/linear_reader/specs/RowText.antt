-- The text of one row, and why bytes are none.
use Rattle.std.specs.Prelude.{◌≡◌, ℕ, List, [], ◌∷◌, Result, Ok, Err}
use Rattle.bar_base.specs.GridText.{grid_text}
use Rattle.bar_base.specs.Picture.{IsShaped, Picture}
use Rattle.symbol_reader.specs.GridLines.{IsBadText, IsPictureWithin, IsTooLargeFor}
use Rattle.linear_reader.specs.declared.parsing.RowFault.{RowFault}
use Rattle.linear_reader.specs.declared.parsing.RowFault.TheVariants.{NoMemory, BadText, BadSide}

-- The picture of a text of one line with at most 16,384 modules.
abbrev pub IsRowOf : (bytes : List ℕ) → Picture → Type 0
IsRowOf bytes picture = IsPictureWithin 16384 1 bytes picture

-- What a refusal to read bytes as a row says: where the text of a grid breaks off, or that it has more lines or is wider. That memory is
-- wanting says no more.
abbrev pub IsRowFault : (bytes : List ℕ) → RowFault → Type 0
IsRowFault bytes NoMemory = Unit {0}
IsRowFault bytes (BadText place) = IsBadText bytes place
IsRowFault bytes (BadSide width count) = IsTooLargeFor 16384 1 bytes width count

-- The answer is this picture, unless memory is wanting.
abbrev pub GivesRow : Picture → Result Picture RowFault → Type 0
GivesRow picture (Ok shown) = shown ≡ picture
GivesRow picture (Err fault) = fault ≡ NoMemory

-- The text that is written for a picture of one row gives that picture.
abbrev pub GivesItsRow : (bytes : List ℕ) → Result Picture RowFault → Type 0
GivesItsRow bytes result = (picture : Picture) → IsShaped picture → picture.heights ≡ 1 ∷ [] → bytes ≡ grid_text picture → GivesRow picture result
