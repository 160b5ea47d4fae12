use Rattle.std.proofs.Common.{◌≡◌, ◌≤◌, ◌*◌, ◌-◌, ◌++◌}
use Rattle.std.specs.List.{flat_map, range_with_len}
use Rattle.bar_base.specs.Picture.{row_count}
use Rattle.vector_out.specs.Drawing.{row_lines, rectangle_lines}
use Rattle.vector_out.specs.Runs.{modules_above}
use Rattle.vector_out.proofs.PutPieceByPiece.{IsPutting}
use Rattle.vector_out.proofs.drawing.put_runs.Given as goal

-- the rows from this one on are left, and the modules above it are counted
abbrev pub invariant-loop-y : goal.invariant-loop-y
invariant-loop-y g l = record {
  putting : IsPutting (l.initial.waiting ++ rectangle_lines l.form l.paint l.grid) (flat_map (row_lines l.form l.paint l.grid) (range_with_len l.y (row_count l.grid - l.y))) l.waiting
      (g.S.Sink.held l.initial.sink) (g.S.Sink.held l.sink) (g.S.Sink.faults l.initial.sink) (g.S.Sink.faults l.sink) (g.S.Sink.rest l.initial.sink) (g.S.Sink.rest l.sink);
  above : l.above ≡ modules_above l.grid l.y;
  low : l.above ≤ 200 * l.y;
}
