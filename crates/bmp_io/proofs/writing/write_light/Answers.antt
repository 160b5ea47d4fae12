use Rattle.std.proofs.Common.{[], replicate}
use Rattle.bar_base.specs.Outside.{AppendsPrefix}
use Rattle.bar_base.proofs.Appended.{on_refusal}
use Rattle.bmp_io.specs.Pixels.{stacked}
use Rattle.bmp_io.proofs.Rows.{light-rows}
use Rattle.bmp_io.proofs.writing.write_light.Goals as goal

pub returns-in_err-write_times-clause-part : goal.returns-in_err-write_times-clause-part
returns-in_err-write_times-clause-part g c =
    let is = light-rows c.args.paint c.args.stride c.unit.result c.args.rows.now c.fill.new.self c.requires.fits c.unit.ensures (c.fill.ensures.after (λ y same. same)) in
    let part : AppendsPrefix (g.S.Sink.held c.args.sink.now) (g.S.Sink.held c.write_times.new.sink) (stacked c.args.paint c.args.stride (replicate c.args.paint.vwhite [])) = rw is c.in_err-write_times.ensures.part in
    on_refusal _ part

pub returns-clause-whole : goal.returns-clause-whole
returns-clause-whole g c =
    let is = light-rows c.args.paint c.args.stride c.unit.result c.args.rows.now c.fill.new.self c.requires.fits c.unit.ensures (c.fill.ensures.after (λ y same. same)) in
    rw is c.in_ok-write_times.ensures.whole
