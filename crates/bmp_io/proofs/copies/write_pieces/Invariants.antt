use Rattle.std.proofs.Common.{◌-◌}
use Rattle.std.specs.List.{repeat}
use Rattle.bar_base.proofs.PieceByPiece.{IsWriting}
use Rattle.bmp_io.proofs.copies.write_pieces.Given as goal

-- as many pieces are left as there are turns
abbrev pub invariant-loop-i : goal.invariant-loop-i
invariant-loop-i g l =
    IsWriting (repeat l.times l.piece) (repeat (l.times - l.i) l.piece) (g.S.Sink.held l.initial.sink) (g.S.Sink.held l.sink)
    (g.S.Sink.faults l.initial.sink) (g.S.Sink.faults l.sink) (g.S.Sink.rest l.initial.sink) (g.S.Sink.rest l.sink)
