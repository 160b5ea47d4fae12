use Rattle.std.proofs.Common.{◌+◌, ◌*◌, ap, ◌∙◌, ℕ, get_or}
use Rattle.aztec_layout.specs.Places.{bits_before, data_line, pairs_on_side}
use Rattle.aztec_layout.proofs.Sides.{side_within}
use Rattle.aztec_layout.proofs.Spots.{place_free, place_of_number}
use Rattle.aztec_layout.proofs.placement.place_by.Goals as goal

pub returns-clause-place : goal.returns-clause-place
returns-clause-place c =
    let corner = c.corner_on-column.ensures in
    place_of_number c.args.size c.args.layer (c.args.side * (2 * pairs_on_side c.args.size c.args.layer) + c.args.along)
    (get_or c.args.lines.now c.corner_on-column.result.0 0) (get_or c.args.lines.now c.corner_on-column.result.1 0)
    c.requires.layer (side_within c.args.side c.args.along (pairs_on_side c.args.size c.args.layer) c.requires.side c.requires.along)
    (c.requires.lines.each c.corner_on-column.result.0 corner.column_inside ∙ ap (data_line c.args.size) corner.column)
    (c.requires.lines.each c.corner_on-column.result.1 corner.row_inside ∙ ap (data_line c.args.size) corner.row)

pub returns-clause-free : goal.returns-clause-free
returns-clause-free c =
    place_free c.args.size (bits_before c.args.size c.args.layer + (c.args.side * (2 * pairs_on_side c.args.size c.args.layer) + c.args.along))
    (get_or c.args.lines.now c.corner_on-column.result.0 0) (get_or c.args.lines.now c.corner_on-column.result.1 0) (returns-clause-place c)
