-- A picture as it is painted: the units or pixels of a module, the white space, and the rows in it.
use Rattle.std.specs.Prelude.{ℕ, Bool, List, [], ◌++◌, ◌+◌, ◌*◌, ◌≤◌, sum, replicate, slice_index}
use Rattle.std.specs.List.{flat_map, range_with_len}
use Rattle.bar_base.specs.Picture.{Picture, row_of, row_count}
use Rattle.bar_base.specs.declared.paint.Paint.{Paint}

-- A paint in range: the scale is 1 to 20, each white space 0 to 100 modules.
pub record IsPaint (paint : Paint) : Type 0 where
  pub seen : 1 ≤ paint.scale
  pub scaled : paint.scale ≤ 20
  pub narrow : paint.white ≤ 100
  pub short : paint.vwhite ≤ 100

-- the units or pixels of a module's side
abbrev pub unit_of : Paint → ℕ
unit_of paint = 2 * paint.scale

-- the width of the painted picture, in units or pixels
abbrev pub painted_width : Paint → Picture → ℕ
painted_width paint picture = unit_of paint * (picture.width + 2 * paint.white)

-- the modules from the top of the symbol to its bottom
unfoldable pub modules_high : Picture → ℕ
modules_high picture = sum picture.heights

-- the height of the painted picture, in units or pixels
abbrev pub painted_height : Paint → Picture → ℕ
painted_height paint picture = unit_of paint * (modules_high picture + 2 * paint.vwhite)

-- a row of modules as often as its height says
abbrev pub tall_row : Picture → (y : ℕ) → List (List Bool)
tall_row picture y = replicate (slice_index picture.heights y) (row_of picture y)

-- the first rows of modules from the top, each as often as its height says
unfoldable pub tall_rows : Picture → (rows : ℕ) → List (List Bool)
tall_rows picture rows = flat_map (tall_row picture) (range_with_len 0 rows)

-- the rows of the painted picture, module by module from the top: in the white space they have no modules
unfoldable pub painted_rows : Paint → Picture → List (List Bool)
painted_rows paint picture = replicate paint.vwhite [] ++ tall_rows picture (row_count picture) ++ replicate paint.vwhite []
