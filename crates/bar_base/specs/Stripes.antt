-- Rows of bars and spaces, given by their widths in modules (ISO/IEC 15417, 16388, 16390, symbol structure).
use Rattle.std.specs.Prelude.{ℕ, Bool, true, not, List, [], ◌∷◌, ◌++◌, replicate, sum}
use Rattle.bar_base.specs.Picture.{Picture}

-- The modules of bars and spaces with these widths, in turn; the first is a bar where `dark`, else a space.
unfoldable pub stripes : (dark : Bool) → (widths : List ℕ) → List Bool
stripes dark [] = []
stripes dark (width ∷ widths) = replicate width dark ++ stripes (not dark) widths

-- A picture of one row, with the height 1, of bars and spaces with these widths, beginning with a bar.
unfoldable pub row_picture : (widths : List ℕ) → Picture
row_picture widths = record { width = sum widths; heights = 1 ∷ []; modules = stripes true widths }
