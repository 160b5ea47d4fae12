use Rattle.std.proofs.Common.{◌-◌}
use Rattle.bar_base.specs.Paint.{tall_rows}
use Rattle.bar_base.specs.Picture.{row_count}
use Rattle.bar_base.proofs.PieceByPiece.{IsWriting}
use Rattle.bmp_io.specs.Pixels.{stacked}
use Rattle.bmp_io.proofs.writing.write_rows.Given as goal

-- the rows above the ones that were written are left
abbrev pub invariant-loop-below : goal.invariant-loop-below
invariant-loop-below g l =
    IsWriting (stacked l.paint l.stride (tall_rows l.grid (row_count l.grid))) (stacked l.paint l.stride (tall_rows l.grid (row_count l.grid - l.below)))
    (g.S.Sink.held l.initial.sink) (g.S.Sink.held l.sink) (g.S.Sink.faults l.initial.sink) (g.S.Sink.faults l.sink) (g.S.Sink.rest l.initial.sink) (g.S.Sink.rest l.sink)
