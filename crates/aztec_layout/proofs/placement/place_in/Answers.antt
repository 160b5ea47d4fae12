use Rattle.std.proofs.Common.{◌+◌, ap, ◌∙◌}
use Rattle.aztec_layout.specs.Places.{bits_before, data_line}
use Rattle.aztec_layout.proofs.Spots.{place_below, place_free, place_of_number}
use Rattle.aztec_layout.proofs.placement.place_in.Goals as goal

pub returns-clause-place : goal.returns-clause-place
returns-clause-place c =
    place_of_number c.args.size c.args.layer c.args.number c.line.result c.line-2.result c.requires.layer c.requires.inside
    (c.line.ensures ∙ ap (data_line c.args.size) c.corner-column.ensures.column) (c.line-2.ensures ∙ ap (data_line c.args.size) c.corner-column.ensures.row)

pub returns-clause-free : goal.returns-clause-free
returns-clause-free c =
    place_free c.args.size (bits_before c.args.size c.args.layer + c.args.number) c.line.result c.line-2.result
    (place_of_number c.args.size c.args.layer c.args.number c.line.result c.line-2.result c.requires.layer c.requires.inside
    (c.line.ensures ∙ ap (data_line c.args.size) c.corner-column.ensures.column) (c.line-2.ensures ∙ ap (data_line c.args.size) c.corner-column.ensures.row))

pub returns-clause-inside : goal.returns-clause-inside
returns-clause-inside c =
    place_below c.args.size (bits_before c.args.size c.args.layer + c.args.number) c.line.result c.line-2.result
    (place_of_number c.args.size c.args.layer c.args.number c.line.result c.line-2.result c.requires.layer c.requires.inside
    (c.line.ensures ∙ ap (data_line c.args.size) c.corner-column.ensures.column) (c.line-2.ensures ∙ ap (data_line c.args.size) c.corner-column.ensures.row))
