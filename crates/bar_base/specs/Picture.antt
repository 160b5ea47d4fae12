-- A picture of a symbol: rows of modules, each row with a height.
use Rattle.std.specs.Prelude.{◌≡◌, ℕ, Bool, List, Option, length, take, drop, slice_get, slice_set, replicate, All, false, ◌≤◌, ◌+◌, ◌*◌}

-- The modules are given row by row from the top, in each row from the left; true is dark.
pub record Picture : Type 0 where
  pub width : ℕ
  pub heights : List ℕ
  pub modules : List Bool

-- how many rows there are
abbrev pub row_count : Picture → ℕ
row_count picture = length picture.heights

-- the module in column x and row y, counted from 0 at the top left
abbrev pub module_at : Picture → (x y : ℕ) → Option Bool
module_at picture x y = slice_get picture.modules (y * picture.width + x)

-- the modules of row y, from the left
abbrev pub row_of : Picture → (y : ℕ) → List Bool
row_of picture y = take picture.width (drop (y * picture.width) picture.modules)

-- a picture of light modules, each row with the height 1
abbrev pub light : (width rows : ℕ) → Picture
light width rows = record { width = width; heights = replicate rows 1; modules = replicate (rows * width) false }

-- the picture with this module in column x and row y
abbrev pub with_module : Picture → (x y : ℕ) → Bool → Picture
with_module picture x y dark = record picture { modules = slice_set picture.modules (y * picture.width + x) dark }

-- the picture with this height of row y
abbrev pub with_height : Picture → (y height : ℕ) → Picture
with_height picture y height = record picture { heights = slice_set picture.heights y height }

-- Every row has as many modules as the picture is wide; sides are 1 to 16,384 modules, heights 1 to 200.
pub record IsShaped (picture : Picture) : Type 0 where
  pub whole : length picture.modules ≡ row_count picture * picture.width
  pub wide : 1 ≤ picture.width
  pub narrow : picture.width ≤ 16384
  pub tall : 1 ≤ row_count picture
  pub short : row_count picture ≤ 16384
  pub small : row_count picture * picture.width ≤ 1048576
  pub heights : All (λ height. (1 ≤ height) × (height ≤ 200)) picture.heights

-- A matrix symbol as a picture: at most 151 by 151 modules, each row with the height 1.
pub record IsMatrixSymbol (picture : Picture) : Type 0 where
  pub shape : IsShaped picture
  pub narrow : picture.width ≤ 151
  pub short : row_count picture ≤ 151
  pub flat : picture.heights ≡ replicate (row_count picture) 1
