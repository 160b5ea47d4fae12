-- The text of a grid: a line for each row, from the top.
use Rattle.std.specs.Prelude.{ℕ, Bool, List, [], ◌∷◌, ◌++◌, map, zero, suc, if◌then◌else◌}
use Rattle.bar_base.specs.Picture.{Picture, row_of, row_count}

-- a dark module is the character 1, a light one the character 0
abbrev pub module_text : Bool → ℕ
module_text dark = if dark then 49 else 48

-- the modules of a row from the left, and a line feed
abbrev pub line_of : List Bool → List ℕ
line_of row = map module_text row ++ 10 ∷ []

-- the lines of `count` rows, the first of them row y
unfoldable pub lines_from : Picture → (y count : ℕ) → List ℕ
lines_from picture y zero = []
lines_from picture y (suc count) = line_of (row_of picture y) ++ lines_from picture (suc y) count

-- the lines of all rows
abbrev pub grid_text : Picture → List ℕ
grid_text picture = lines_from picture 0 (row_count picture)
