use Rattle.std.proofs.Common.{◌≡◌, ◌+◌, ◌-◌, ◌++◌, ◌<◌, List, ℕ, sym, ap, ◌∙◌, arith}
use Rattle.std.specs.List.{flat_map, range_with_len}
use Rattle.bar_base.proofs.Appended.{on_refusal}
use Rattle.vector_out.specs.Drawing.{run_line, row_lines}
use Rattle.vector_out.proofs.PutPieceByPiece.{IsPutting-none, IsPutting-more, IsPutting-put, IsPutting-part_piece}
use Rattle.vector_out.proofs.RunLines.{range-first, row_lines-columns}
use Rattle.vector_out.proofs.drawing.put_row.Goals as goal

pub loop-x-init : goal.loop-x-init
loop-x-init g c =
    let picture = c.args.grid.now in
    let all : picture.width - 0 ≡ picture.width = omega arith in
    IsPutting-none (c.args.waiting.now ++ row_lines c.args.form c.args.paint picture c.args.y)
    (flat_map (run_line c.args.form c.args.paint picture c.args.y) (range_with_len 0 (picture.width - 0))) c.args.waiting.now _ _ _ (ap (λ (lines : List ℕ). c.args.waiting.now ++ lines)
    (ap (λ width. flat_map (run_line c.args.form c.args.paint picture c.args.y) (range_with_len 0 width)) all
    ∙ sym (row_lines-columns c.args.form c.args.paint picture c.args.y c.width-x-end.ensures.shape c.requires.row)))

pub loop-x-preserved : goal.loop-x-preserved
loop-x-preserved g c =
    let line = run_line c.args.form c.args.paint c.args.grid.now c.args.y in
    let width = c.args.grid.now.width in
    let x = c.loop-x.x in
    let inside : x < width = omega (arith, c.width-x-end.ensures.width, c.loop-x-test.true) in
    IsPutting-more (line x) (flat_map line (range_with_len (x + 1) (width - (x + 1)))) c.loop-x.invariant (ap (flat_map line) (range-first width x inside))
    c.in_ok-put_run.ensures.whole c.put_run.ensures.cause.later c.put_run.ensures.rest

pub returns-in_err-put_run-clause-part : goal.returns-in_err-put_run-clause-part
returns-in_err-put_run-clause-part g c =
    let line = run_line c.args.form c.args.paint c.args.grid.now c.args.y in
    let width = c.args.grid.now.width in
    let x = c.loop-x.x in
    let inside : x < width = omega (arith, c.width-x-end.ensures.width, c.loop-x-test.true) in
    on_refusal _ (IsPutting-part_piece (line x) (flat_map line (range_with_len (x + 1) (width - (x + 1)))) c.loop-x.invariant (ap (flat_map line) (range-first width x inside)) c.in_err-put_run.ensures.part)

pub returns-clause-whole : goal.returns-clause-whole
returns-clause-whole g c =
    let none : c.args.grid.now.width - c.loop-x.x ≡ 0 = omega (arith, c.width-x-end.ensures.width, c.loop-x-test.false) in
    IsPutting-put c.loop-x.invariant (ap (λ count. flat_map (run_line c.args.form c.args.paint c.args.grid.now c.args.y) (range_with_len c.loop-x.x count)) none)
