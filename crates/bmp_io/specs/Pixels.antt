-- A row of modules as a row of pixels, one bit a pixel.
use Rattle.std.specs.Prelude.{ℕ, Bool, List, ◌++◌, ◌*◌, ◌/◌, map, false, replicate, slice_index_or, reverse}
use Rattle.std.specs.List.{range_with_len, flat_map, repeat}
use Rattle.bar_base.specs.Bits.{number_after}
use Rattle.bar_base.specs.Paint.{unit_of}
use Rattle.bar_base.specs.declared.paint.Paint.{Paint}

-- whether the painted row is dark at this column of modules: light in the white space on the left, and past the modules
abbrev pub module_over : Paint → (modules : List Bool) → (column : ℕ) → Bool
module_over paint modules column = slice_index_or (replicate paint.white false ++ modules) column false

-- whether pixel p of the row is dark: its module is, found by division
abbrev pub pixel : Paint → (modules : List Bool) → (p : ℕ) → Bool
pixel paint modules p = module_over paint modules (p / unit_of paint)

-- eight pixels from pixel p on as a byte, the left one as the high bit, 1 for dark
unfoldable pub eight_pixels : Paint → (modules : List Bool) → (p : ℕ) → ℕ
eight_pixels paint modules p = number_after 0 (map (pixel paint modules) (range_with_len p 8))

-- a row of pixels in so many bytes
unfoldable pub pixel_row : Paint → (bytes : ℕ) → (modules : List Bool) → List ℕ
pixel_row paint bytes modules = map (λ k. eight_pixels paint modules (8 * k)) (range_with_len 0 bytes)

-- the rows of pixels that show these rows of modules, the last row of modules first: each is a module's side high
unfoldable pub stacked : Paint → (bytes : ℕ) → (rows : List (List Bool)) → List ℕ
stacked paint bytes rows = flat_map (λ modules. repeat (unit_of paint) (pixel_row paint bytes modules)) (reverse rows)
