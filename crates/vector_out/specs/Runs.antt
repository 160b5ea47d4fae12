-- The dark runs of a picture, and the rectangles that show them.
use Rattle.std.specs.Prelude.{ℕ, Bool, List, ◌∷◌, ◌+◌, ◌*◌, ◌&&◌, not, map, sum, take, drop, length, false, slice_index, slice_index_or}
use Rattle.std.specs.List.{flat_map, filter, prefix_len, range_with_len}
use Rattle.bar_base.specs.Paint.{unit_of}
use Rattle.bar_base.specs.Picture.{Picture, row_of, row_count}
use Rattle.bar_base.specs.declared.paint.Paint.{Paint}
use Rattle.vector_out.specs.declared.runs.Rectangle.{Rectangle}

-- A dark run begins in this column: its module is dark, and the one on its left, if there is one, is light.
abbrev pub begins_run : (row : List Bool) → (column : ℕ) → Bool
begins_run row column = slice_index_or row column false && not (slice_index_or (false ∷ row) column false)

-- the columns in which the dark runs of a row begin, from the left
abbrev pub dark_run_starts : (row : List Bool) → List ℕ
dark_run_starts row = filter (begins_run row) (range_with_len 0 (length row))

-- the modules of the longest dark run from a column on
abbrev pub dark_run_length : (row : List Bool) → (column : ℕ) → ℕ
dark_run_length row column = prefix_len (λ dark. dark) (drop column row)

-- the modules above row y: the sum of the heights of the rows before it
abbrev pub modules_above : Picture → (y : ℕ) → ℕ
modules_above picture y = sum (take y picture.heights)

-- the dark run of row y that begins in column x, in units of the painted picture
unfoldable pub rectangle_of : Paint → Picture → (y x : ℕ) → Rectangle
rectangle_of paint picture y x = record {
  left = unit_of paint * (paint.white + x);
  top = unit_of paint * (paint.vwhite + modules_above picture y);
  width = unit_of paint * dark_run_length (row_of picture y) x;
  height = unit_of paint * slice_index picture.heights y;
}

-- the dark runs of row y, from the left
unfoldable pub row_rectangles : Paint → Picture → (y : ℕ) → List Rectangle
row_rectangles paint picture y = map (rectangle_of paint picture y) (dark_run_starts (row_of picture y))

-- the dark runs of the picture, row by row from the top
unfoldable pub dark_rectangles : Paint → Picture → List Rectangle
dark_rectangles paint picture = flat_map (row_rectangles paint picture) (range_with_len 0 (row_count picture))
