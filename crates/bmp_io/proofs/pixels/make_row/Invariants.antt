use Rattle.std.proofs.Common.{◌≡◌, ◌<◌, ◌*◌, ℕ, get_or}
use Rattle.bar_base.specs.Picture.{row_of}
use Rattle.bmp_io.specs.Pixels.{eight_pixels}
use Rattle.bmp_io.proofs.pixels.make_row.Given as goal

-- the bytes on the left are made
abbrev pub invariant-loop-k : goal.invariant-loop-k
invariant-loop-k l = (k : ℕ) → k < l.k → get_or l.row k 0 ≡ eight_pixels l.paint (row_of l.grid l.y) (8 * k)
