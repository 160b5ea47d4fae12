use Rattle.std.proofs.Common.{◌*◌, length, arith}
use Rattle.std.proofs.lemmas.List.FromFn.{fill_by_all}
use Rattle.bar_base.specs.Picture.{row_of}
use Rattle.bmp_io.specs.Pixels.{eight_pixels, pixel_row}
use Rattle.bmp_io.proofs.pixels.make_row.Goals as goal

pub returns : goal.returns
unfolding pixel_row
returns c =
    fill_by_all (λ k. eight_pixels c.args.paint (row_of c.args.grid.now c.args.y) (8 * k)) c.loop-k.row (length c.args.row.now) 0 c.loop-k.auto.row
    (λ k below. c.loop-k.invariant k (omega arith))
