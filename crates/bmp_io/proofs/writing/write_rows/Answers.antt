use Rattle.std.proofs.Common.{◌≡◌, ◌+◌, ◌-◌, ◌<◌, ap, ◌∙◌, arith}
use Rattle.std.specs.Io.KnownBytes.{Appends}
use Rattle.bar_base.specs.Outside.{AppendsPrefix}
use Rattle.bar_base.specs.Paint.{tall_row, tall_rows}
use Rattle.bar_base.specs.Picture.{row_count}
use Rattle.bar_base.proofs.Appended.{on_refusal}
use Rattle.bar_base.proofs.PieceByPiece.{IsWriting-more, IsWriting-part, IsWriting-all}
use Rattle.bmp_io.specs.Pixels.{stacked}
use Rattle.bmp_io.proofs.Rows.{stacked-one_less, tall_rows-none, stacked-none}
use Rattle.bmp_io.proofs.writing.write_rows.Goals as goal

pub loop-below-preserved : goal.loop-below-preserved
loop-below-preserved g c =
    let picture = c.args.grid.now in
    let bytes = c.args.stride in
    let inside : c.loop-below.below < row_count picture = rw (← c.rows-count.ensures.rows) c.loop-below-test.true in
    let piece = stacked c.args.paint bytes (tall_row picture (row_count picture - 1 - c.loop-below.below)) in
    let written : Appends (g.S.Sink.held c.loop-below.sink) (g.S.Sink.held c.write_row.new.sink) piece =
    rw (← c.rows-count.ensures.rows) c.in_ok-write_row.ensures.whole in
    IsWriting-more {bytes = stacked c.args.paint bytes (tall_rows picture (row_count picture))} piece (stacked c.args.paint bytes (tall_rows picture (row_count picture - (c.loop-below.below + 1)))) c.loop-below.invariant
    (stacked-one_less c.args.paint picture bytes c.loop-below.below inside) written c.write_row.ensures.cause.later c.write_row.ensures.rest

pub returns-in_err-write_row-clause-part : goal.returns-in_err-write_row-clause-part
returns-in_err-write_row-clause-part g c =
    let picture = c.args.grid.now in
    let bytes = c.args.stride in
    let inside : c.loop-below.below < row_count picture = rw (← c.rows-count.ensures.rows) c.loop-below-test.true in
    let piece = stacked c.args.paint bytes (tall_row picture (row_count picture - 1 - c.loop-below.below)) in
    let written : AppendsPrefix (g.S.Sink.held c.loop-below.sink) (g.S.Sink.held c.write_row.new.sink) piece =
    rw (← c.rows-count.ensures.rows) c.in_err-write_row.ensures.part in
    on_refusal _ (IsWriting-part {bytes = stacked c.args.paint bytes (tall_rows picture (row_count picture))} piece (stacked c.args.paint bytes (tall_rows picture (row_count picture - (c.loop-below.below + 1)))) c.loop-below.invariant
    (stacked-one_less c.args.paint picture bytes c.loop-below.below inside) written)

pub returns-clause-whole : goal.returns-clause-whole
returns-clause-whole g c =
    let picture = c.args.grid.now in
    let past : row_count picture - c.loop-below.below ≡ 0 = omega (arith, c.rows-count.ensures.rows, c.loop-below-test.false) in
    IsWriting-all {bytes = stacked c.args.paint c.args.stride (tall_rows picture (row_count picture))} c.loop-below.invariant
    (ap (λ rows. stacked c.args.paint c.args.stride (tall_rows picture rows)) past ∙ ap (stacked c.args.paint c.args.stride) (tall_rows-none picture) ∙ stacked-none c.args.paint c.args.stride)
