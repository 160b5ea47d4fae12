use Rattle.std.proofs.Common.{◌++◌, List, ℕ, [], refl, sym, ap, append-nil, append_assoc}
use Rattle.bar_base.proofs.Appended.{on_refusal}
use Rattle.vector_out.specs.Drawing.{rectangle_lines}
use Rattle.vector_out.proofs.PutPieceByPiece.{IsPutting-none, IsPutting-more, IsPutting-all, IsPutting-part, IsPutting-part_piece}
use Rattle.vector_out.proofs.drawing.write_drawing.Goals as goal

pub returns-in_err-put-clause-part : goal.returns-in_err-put-clause-part
returns-in_err-put-clause-part g c =
    let lines = rectangle_lines c.args.form c.args.paint c.args.grid.now in
    let end = c.args.end.now in
    let start = IsPutting-none (c.args.head.now ++ lines ++ end) (c.args.head.now ++ lines ++ end) c.new-waiting.result (g.S.Sink.held c.args.sink.now) (g.S.Sink.faults c.args.sink.now) (g.S.Sink.rest c.args.sink.now)
    (ap (λ (waiting : List ℕ). waiting ++ (c.args.head.now ++ lines ++ end)) c.new-waiting.ensures.empty) in
    on_refusal _ (IsPutting-part_piece c.args.head.now (lines ++ end) start (append_assoc c.args.head.now lines end) c.in_err-put.ensures.part)

pub returns-in_err-put_runs-clause-part : goal.returns-in_err-put_runs-clause-part
returns-in_err-put_runs-clause-part g c =
    let lines = rectangle_lines c.args.form c.args.paint c.args.grid.now in
    let end = c.args.end.now in
    let start = IsPutting-none (c.args.head.now ++ lines ++ end) (c.args.head.now ++ lines ++ end) c.new-waiting.result (g.S.Sink.held c.args.sink.now) (g.S.Sink.faults c.args.sink.now) (g.S.Sink.rest c.args.sink.now)
    (ap (λ (waiting : List ℕ). waiting ++ (c.args.head.now ++ lines ++ end)) c.new-waiting.ensures.empty) in
    let headed = IsPutting-more c.args.head.now (lines ++ end) start (append_assoc c.args.head.now lines end) c.in_ok-put.ensures.whole c.put.ensures.cause.later c.put.ensures.rest in
    on_refusal _ (IsPutting-part_piece lines end headed refl c.in_err-put_runs.ensures.part)

pub returns-in_err-put-2-clause-part : goal.returns-in_err-put-2-clause-part
returns-in_err-put-2-clause-part g c =
    let lines = rectangle_lines c.args.form c.args.paint c.args.grid.now in
    let end = c.args.end.now in
    let start = IsPutting-none (c.args.head.now ++ lines ++ end) (c.args.head.now ++ lines ++ end) c.new-waiting.result (g.S.Sink.held c.args.sink.now) (g.S.Sink.faults c.args.sink.now) (g.S.Sink.rest c.args.sink.now)
    (ap (λ (waiting : List ℕ). waiting ++ (c.args.head.now ++ lines ++ end)) c.new-waiting.ensures.empty) in
    let headed = IsPutting-more c.args.head.now (lines ++ end) start (append_assoc c.args.head.now lines end) c.in_ok-put.ensures.whole c.put.ensures.cause.later c.put.ensures.rest in
    let drawn = IsPutting-more lines end headed refl c.in_ok-put_runs.ensures.whole c.put_runs.ensures.cause.later c.put_runs.ensures.rest in
    on_refusal _ (IsPutting-part_piece end [] drawn (sym (append-nil end)) c.in_err-put-2.ensures.part)

pub returns-in_err-flush-clause-part : goal.returns-in_err-flush-clause-part
returns-in_err-flush-clause-part g c =
    let lines = rectangle_lines c.args.form c.args.paint c.args.grid.now in
    let end = c.args.end.now in
    let start = IsPutting-none (c.args.head.now ++ lines ++ end) (c.args.head.now ++ lines ++ end) c.new-waiting.result (g.S.Sink.held c.args.sink.now) (g.S.Sink.faults c.args.sink.now) (g.S.Sink.rest c.args.sink.now)
    (ap (λ (waiting : List ℕ). waiting ++ (c.args.head.now ++ lines ++ end)) c.new-waiting.ensures.empty) in
    let headed = IsPutting-more c.args.head.now (lines ++ end) start (append_assoc c.args.head.now lines end) c.in_ok-put.ensures.whole c.put.ensures.cause.later c.put.ensures.rest in
    let drawn = IsPutting-more lines end headed refl c.in_ok-put_runs.ensures.whole c.put_runs.ensures.cause.later c.put_runs.ensures.rest in
    let ended = IsPutting-more end [] drawn (sym (append-nil end)) c.in_ok-put-2.ensures.whole c.put-2.ensures.cause.later c.put-2.ensures.rest in
    on_refusal _ (IsPutting-part ended c.in_err-flush.ensures.part)

pub returns-clause-whole : goal.returns-clause-whole
returns-clause-whole g c =
    let lines = rectangle_lines c.args.form c.args.paint c.args.grid.now in
    let end = c.args.end.now in
    let start = IsPutting-none (c.args.head.now ++ lines ++ end) (c.args.head.now ++ lines ++ end) c.new-waiting.result (g.S.Sink.held c.args.sink.now) (g.S.Sink.faults c.args.sink.now) (g.S.Sink.rest c.args.sink.now)
    (ap (λ (waiting : List ℕ). waiting ++ (c.args.head.now ++ lines ++ end)) c.new-waiting.ensures.empty) in
    let headed = IsPutting-more c.args.head.now (lines ++ end) start (append_assoc c.args.head.now lines end) c.in_ok-put.ensures.whole c.put.ensures.cause.later c.put.ensures.rest in
    let drawn = IsPutting-more lines end headed refl c.in_ok-put_runs.ensures.whole c.put_runs.ensures.cause.later c.put_runs.ensures.rest in
    let ended = IsPutting-more end [] drawn (sym (append-nil end)) c.in_ok-put-2.ensures.whole c.put-2.ensures.cause.later c.put-2.ensures.rest in
    IsPutting-all _ ended refl c.in_ok-flush.ensures.whole
