use Rattle.std.proofs.Common.{◌+◌, ◌-◌, arith}
use Rattle.std.specs.List.{repeat}
use Rattle.bar_base.proofs.Appended.{on_refusal}
use Rattle.bar_base.proofs.PieceByPiece.{IsWriting-more, IsWriting-part}
use Rattle.bmp_io.proofs.Lists.{repeat-one_less}
use Rattle.bmp_io.proofs.copies.write_pieces.Goals as goal

pub loop-i-preserved : goal.loop-i-preserved
loop-i-preserved g c =
    IsWriting-more c.args.piece.now (repeat (c.args.times - (c.loop-i.i + 1)) c.args.piece.now) c.loop-i.invariant
    (repeat-one_less c.args.times c.loop-i.i c.args.piece.now (omega arith)) c.in_ok-write_all.ensures.whole c.write_all.ensures.cause.later c.write_all.ensures.rest

pub returns-in_err-write_all-clause-part : goal.returns-in_err-write_all-clause-part
returns-in_err-write_all-clause-part g c =
    on_refusal _ (IsWriting-part c.args.piece.now (repeat (c.args.times - (c.loop-i.i + 1)) c.args.piece.now) c.loop-i.invariant
    (repeat-one_less c.args.times c.loop-i.i c.args.piece.now (omega arith)) c.in_err-write_all.ensures.part)
