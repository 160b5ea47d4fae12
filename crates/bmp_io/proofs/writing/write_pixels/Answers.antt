use Rattle.std.proofs.KnownBytes.{Appends-trans}
use Rattle.bar_base.specs.Outside.{AppendsPrefix}
use Rattle.bar_base.proofs.Appended.{on_refusal, AppendsPrefix-front, AppendsPrefix-after}
use Rattle.bmp_io.specs.Bmp.{rows_from_bottom}
use Rattle.bmp_io.proofs.Rows.{rows-parts}
use Rattle.bmp_io.proofs.writing.write_pixels.Goals as goal

pub returns-in_err-write_light-clause-part : goal.returns-in_err-write_light-clause-part
returns-in_err-write_light-clause-part g c =
    let part : AppendsPrefix (g.S.Sink.held c.args.sink.now) (g.S.Sink.held c.write_light.new.sink) (rows_from_bottom c.args.paint c.args.grid.now) =
    rw (rows-parts c.args.paint c.args.grid.now c.requires.paint, ← c.requires.stride) (AppendsPrefix-front _ c.in_err-write_light.ensures.part) in
    on_refusal _ part

pub returns-in_err-write_rows-clause-part : goal.returns-in_err-write_rows-clause-part
returns-in_err-write_rows-clause-part g c =
    let rows_part = c.in_err-write_rows.ensures.part in
    let part : AppendsPrefix (g.S.Sink.held c.args.sink.now) (g.S.Sink.held c.write_rows.new.sink) (rows_from_bottom c.args.paint c.args.grid.now) =
    rw (rows-parts c.args.paint c.args.grid.now c.requires.paint, ← c.requires.stride)
    (AppendsPrefix-after _ c.in_ok-write_light.ensures.whole (AppendsPrefix-front _ rows_part)) in
    on_refusal _ part

pub returns-in_err-write_light-2-clause-part : goal.returns-in_err-write_light-2-clause-part
returns-in_err-write_light-2-clause-part g c =
    let rows = c.in_ok-write_rows.ensures.whole in
    let light_part = c.in_err-write_light-2.ensures.part in
    let part : AppendsPrefix (g.S.Sink.held c.args.sink.now) (g.S.Sink.held c.write_light-2.new.sink) (rows_from_bottom c.args.paint c.args.grid.now) =
    rw (rows-parts c.args.paint c.args.grid.now c.requires.paint, ← c.requires.stride)
    (AppendsPrefix-after _ c.in_ok-write_light.ensures.whole (AppendsPrefix-after _ rows light_part)) in
    on_refusal _ part

pub returns-clause-whole : goal.returns-clause-whole
returns-clause-whole g c =
    let rows = c.in_ok-write_rows.ensures.whole in
    let light = c.in_ok-write_light-2.ensures.whole in
    rw (rows-parts c.args.paint c.args.grid.now c.requires.paint, ← c.requires.stride)
    (Appends-trans _ (g.S.Sink.held c.write_light.new.sink) _ _ _ c.in_ok-write_light.ensures.whole
    (Appends-trans _ (g.S.Sink.held c.write_rows.new.sink) _ _ _ rows light))
