use Rattle.std.proofs.Common.{◌-◌, ◌++◌}
use Rattle.std.specs.List.{flat_map, range_with_len}
use Rattle.vector_out.specs.Drawing.{run_line, row_lines}
use Rattle.vector_out.proofs.PutPieceByPiece.{IsPutting}
use Rattle.vector_out.proofs.drawing.put_row.Given as goal

-- the runs from this column on are left
abbrev pub invariant-loop-x : goal.invariant-loop-x
invariant-loop-x g l =
    IsPutting (l.initial.waiting ++ row_lines l.form l.paint l.grid l.y) (flat_map (run_line l.form l.paint l.grid l.y) (range_with_len l.x (l.grid.width - l.x))) l.waiting
    (g.S.Sink.held l.initial.sink) (g.S.Sink.held l.sink) (g.S.Sink.faults l.initial.sink) (g.S.Sink.faults l.sink) (g.S.Sink.rest l.initial.sink) (g.S.Sink.rest l.sink)
