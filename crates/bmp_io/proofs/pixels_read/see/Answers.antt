use Rattle.bmp_io.specs.BmpHeader.{pixels_high}
use Rattle.bmp_io.proofs.Sides.{looked-inside}
use Rattle.bmp_io.proofs.pixels_read.see.Goals as goal

pub pixel_at-requires-clause-column : goal.pixel_at-requires-clause-column
pixel_at-requires-clause-column c =
    let s = c.args.sampling in
    looked-inside s.unit s.white s.most c.args.header.width c.args.x s.inset c.requires.sides.across c.requires.column c.requires.sampling.inside

pub pixel_at-requires-clause-row : goal.pixel_at-requires-clause-row
pixel_at-requires-clause-row c =
    let s = c.args.sampling in
    looked-inside s.unit s.vwhite s.most (pixels_high c.args.header) c.args.y s.inset c.requires.sides.down c.requires.row c.requires.sampling.inside
