use Rattle.std.proofs.Common.{◌<◌, ◌+◌, ◌-◌}
use Rattle.bar_base.specs.GridText.{lines_from, line_of, grid_text}
use Rattle.bar_base.specs.Picture.{row_of, row_count}
use Rattle.bar_base.proofs.Appended.{on_refusal}
use Rattle.vector_out.proofs.GridLines.{lines-all, lines-more, lines-none}
use Rattle.vector_out.proofs.LineByLine.{IsWriting-none, IsWriting-more, IsWriting-all, IsWriting-part}
use Rattle.vector_out.proofs.grid_text.write_grid.Goals as goal

pub loop-y-init : goal.loop-y-init
loop-y-init g c =
    let picture = c.args.grid.now in
    IsWriting-none (grid_text picture) (lines_from picture 0 (row_count picture - 0)) _ _ _ (lines-all picture)

pub loop-y-preserved : goal.loop-y-preserved
loop-y-preserved g c =
    let picture = c.args.grid.now in
    let y = c.loop-y.y in
    let inside : y < row_count picture = rw (← c.rows-y-end.ensures.rows) c.loop-y-test.true in
    IsWriting-more (line_of (row_of picture y)) (lines_from picture (y + 1) (row_count picture - (y + 1))) c.loop-y.invariant (lines-more picture y inside)
    c.in_ok-write_line.ensures.whole c.write_line.ensures.cause.later c.write_line.ensures.rest

pub returns-in_err-write_line-clause-part : goal.returns-in_err-write_line-clause-part
returns-in_err-write_line-clause-part g c =
    let picture = c.args.grid.now in
    let y = c.loop-y.y in
    let inside : y < row_count picture = rw (← c.rows-y-end.ensures.rows) c.loop-y-test.true in
    on_refusal _ (IsWriting-part (line_of (row_of picture y)) (lines_from picture (y + 1) (row_count picture - (y + 1))) c.loop-y.invariant (lines-more picture y inside)
    c.in_err-write_line.ensures.part)

pub returns-clause-whole : goal.returns-clause-whole
returns-clause-whole g c =
    IsWriting-all c.loop-y.invariant (lines-none c.args.grid.now c.loop-y.y (rw (← c.rows-y-end.ensures.rows) c.loop-y-test.false))
