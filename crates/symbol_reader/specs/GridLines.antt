-- The text of a grid as it is read: lines of the characters 0 and 1, each line a row of modules; and why bytes are none.
use Rattle.std.specs.Prelude.{◌≡◌, ◌⊎◌, ℕ, ◌+◌, ◌<◌, ◌≤◌, Bool, List, [], ◌∷◌, ◌++◌, Result, Ok, Err, length, map, take, replicate}
use Rattle.std.specs.List.{flat_map}
use Rattle.bar_base.specs.GridText.{grid_text, module_text}
use Rattle.bar_base.specs.Picture.{IsMatrixSymbol, Picture}
use Rattle.symbol_reader.specs.declared.text_fault.TextFault.{TextFault}
use Rattle.symbol_reader.specs.declared.text_fault.TextFault.TheVariants.{NoMemory, BadText, BadSide}

-- A line ends with a line feed, or with a carriage return and a line feed.
pub data IsLineEnd : List ℕ → Type 0 where
  feed : IsLineEnd (10 ∷ [])
  return_feed : IsLineEnd (13 ∷ 10 ∷ [])

-- The lines of rows of one width, a character for each module; the last end may be missing.
pub data AreLines (width : ℕ) : List (List Bool) → List ℕ → Type 0 where
  no_line : AreLines width [] []
  last_line : {row : List Bool} → length row ≡ width → AreLines width (row ∷ []) (map module_text row)
  line : {row : List Bool} {rows : List (List Bool)} {end rest : List ℕ}
      → length row ≡ width → IsLineEnd end → AreLines width rows rest
      → AreLines width (row ∷ rows) (map module_text row ++ (end ++ rest))

-- The text of some rows, each of some modules.
pub record IsTextOf (width : ℕ) (rows : List (List Bool)) (bytes : List ℕ) : Type 0 where
  pub some : 1 ≤ length rows
  pub wide : 1 ≤ width
  pub lines : AreLines width rows bytes

-- The text of a grid with so many modules in a row and so many rows.
pub record HasTextSides (bytes : List ℕ) (width count : ℕ) : Type 0 where
  pub rows : List (List Bool)
  pub text : IsTextOf width rows bytes
  pub counted : length rows ≡ count

-- The text of some grid.
abbrev pub IsGridText : List ℕ → Type 0
IsGridText bytes = (width : ℕ) × (count : ℕ) × HasTextSides bytes width count

-- The first byte that cannot stand where it does, or the end of the bytes where they cannot end: what is in front of it
-- goes on to the text of a grid, and with it there is none.
pub record IsBadText (bytes : List ℕ) (place : ℕ) : Type 0 where
  pub within : place ≤ length bytes
  pub begins : (more : List ℕ) × IsGridText (take place bytes ++ more)
  pub stuck : place < length bytes → (more : List ℕ) → IsGridText (take (place + 1) bytes ++ more) → ⊥
  pub short : place ≡ length bytes → IsGridText bytes → ⊥

-- The picture of a text: its rows, each with the height 1, at most so many of at most so many modules.
pub record IsPictureWithin (most_wide most_rows : ℕ) (bytes : List ℕ) (picture : Picture) : Type 0 where
  pub rows : List (List Bool)
  pub text : IsTextOf picture.width rows bytes
  pub heights : picture.heights ≡ replicate (length rows) 1
  pub modules : picture.modules ≡ flat_map (λ row. row) rows
  pub narrow : picture.width ≤ most_wide
  pub short : length rows ≤ most_rows

-- The picture of a text with at most 151 rows of at most 151 modules.
abbrev pub IsPictureOf : (bytes : List ℕ) → Picture → Type 0
IsPictureOf bytes picture = IsPictureWithin 151 151 bytes picture

-- The text of a grid that is wider, or has more rows.
pub record IsTooLargeFor (most_wide most_rows : ℕ) (bytes : List ℕ) (width count : ℕ) : Type 0 where
  pub sides : HasTextSides bytes width count
  pub large : (most_wide < width) ⊎ (most_rows < count)

-- The text of a grid that is wider than any symbol, or has more rows.
abbrev pub IsTooLarge : (bytes : List ℕ) (width count : ℕ) → Type 0
IsTooLarge bytes width count = IsTooLargeFor 151 151 bytes width count

-- What a refusal to read bytes as a picture within these sides says. That memory is wanting says no more.
abbrev pub IsTextFaultFor : (most_wide most_rows : ℕ) (bytes : List ℕ) → TextFault → Type 0
IsTextFaultFor most_wide most_rows bytes NoMemory = Unit {0}
IsTextFaultFor most_wide most_rows bytes (BadText place) = IsBadText bytes place
IsTextFaultFor most_wide most_rows bytes (BadSide width count) = IsTooLargeFor most_wide most_rows bytes width count

-- The same of a picture of at most 151 by 151 modules.
abbrev pub IsTextFault : (bytes : List ℕ) → TextFault → Type 0
IsTextFault bytes fault = IsTextFaultFor 151 151 bytes fault

-- The answer is this picture, unless memory is wanting.
abbrev pub GivesPicture : Picture → Result Picture TextFault → Type 0
GivesPicture picture (Ok shown) = shown ≡ picture
GivesPicture picture (Err fault) = fault ≡ NoMemory

-- The text of a matrix symbol shows that symbol.
abbrev pub GivesItsPicture : List ℕ → Result Picture TextFault → Type 0
GivesItsPicture bytes result =
    (picture : Picture) → IsMatrixSymbol picture → bytes ≡ grid_text picture → GivesPicture picture result
