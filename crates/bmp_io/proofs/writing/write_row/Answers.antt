use Rattle.std.proofs.Common.{arith}
use Rattle.bar_base.specs.Outside.{AppendsPrefix}
use Rattle.bar_base.specs.Paint.{tall_row}
use Rattle.bar_base.proofs.Appended.{on_refusal}
use Rattle.bmp_io.specs.Pixels.{stacked}
use Rattle.bmp_io.proofs.Rows.{symbol-row}
use Rattle.bmp_io.proofs.writing.write_row.Goals as goal

pub overflow_mul-height : goal.overflow_mul-height
overflow_mul-height g c = grind (arith, c.height.ensures.bounded)

pub returns-in_err-write_times-clause-part : goal.returns-in_err-write_times-clause-part
returns-in_err-write_times-clause-part g c =
    let is = symbol-row c.args.paint c.args.grid.now c.args.y c.args.stride c.height.result c.unit.result c.args.rows.now c.make_row.new.row c.requires.fits c.height.ensures.height c.unit.ensures c.make_row.ensures in
    let part : AppendsPrefix (g.S.Sink.held c.args.sink.now) (g.S.Sink.held c.write_times.new.sink) (stacked c.args.paint c.args.stride (tall_row c.args.grid.now c.args.y)) = rw is c.in_err-write_times.ensures.part in
    on_refusal _ part

pub returns-clause-whole : goal.returns-clause-whole
returns-clause-whole g c =
    let is = symbol-row c.args.paint c.args.grid.now c.args.y c.args.stride c.height.result c.unit.result c.args.rows.now c.make_row.new.row c.requires.fits c.height.ensures.height c.unit.ensures c.make_row.ensures in
    rw is c.in_ok-write_times.ensures.whole
