use Rattle.std.proofs.Common.{◌-◌}
use Rattle.bar_base.specs.GridText.{lines_from, grid_text}
use Rattle.bar_base.specs.Picture.{row_count}
use Rattle.vector_out.proofs.LineByLine.{IsWriting}
use Rattle.vector_out.proofs.grid_text.write_grid.Given as goal

-- the lines of the rows from this one on are left
abbrev pub invariant-loop-y : goal.invariant-loop-y
invariant-loop-y g l =
    IsWriting (grid_text l.grid) (lines_from l.grid l.y (row_count l.grid - l.y))
    (g.S.Sink.held l.initial.sink) (g.S.Sink.held l.sink) (g.S.Sink.faults l.initial.sink) (g.S.Sink.faults l.sink) (g.S.Sink.rest l.initial.sink) (g.S.Sink.rest l.sink)
