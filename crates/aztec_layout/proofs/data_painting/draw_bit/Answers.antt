use Rattle.std.proofs.Common.{◌+◌, ◌*◌}
use Rattle.aztec_layout.specs.Places.{bits_before, pairs_on_side}
use Rattle.aztec_layout.proofs.Dots.{placed_dot}
use Rattle.aztec_layout.proofs.data_painting.draw_bit.Goals as goal

pub returns : goal.returns
returns c =
    placed_dot c.args.size (bits_before c.args.size c.args.layer + (c.args.side * (2 * pairs_on_side c.args.size c.args.layer) + c.args.along))
    c.place_by-x.result.0 c.place_by-x.result.1 c.args.bit c.args.grid.now c.dot.new.grid
    c.place_by-x.ensures.place c.dot.ensures
