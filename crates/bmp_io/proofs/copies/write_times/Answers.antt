use Rattle.std.proofs.Common.{◌≡◌, ◌*◌, ◌/◌, ◌%◌, ◌++◌, take, subst, arith}
use Rattle.std.specs.List.{repeat}
use Rattle.std.specs.Io.KnownBytes.{Appends}
use Rattle.std.proofs.KnownBytes.{Appends-trans}
use Rattle.std.proofs.lemmas.List.{length-take-le}
use Rattle.bar_base.specs.Outside.{AppendsPrefix}
use Rattle.bar_base.proofs.Appended.{on_refusal, AppendsPrefix-front, AppendsPrefix-after}
use Rattle.bmp_io.proofs.Lists.{pieces-whole}
use Rattle.bmp_io.proofs.copies.write_times.Goals as goal

pub returns-in_err-write_pieces-clause-part : goal.returns-in_err-write_pieces-clause-part
returns-in_err-write_pieces-clause-part g c =
    let first = take c.args.stride c.args.rows.now in
    let rows = c.copy_rows.new.rows in
    let many = c.min-many.result in
    let whole : repeat (c.args.times / many) (take (many * c.args.stride) rows) ++ take (c.args.times % many * c.args.stride) rows ≡ repeat c.args.times first =
    pieces-whole rows first c.args.stride many c.args.times (length-take-le c.args.stride c.args.rows.now c.requires.fits) (omega arith) c.copy_rows.ensures.copies in
    let part : AppendsPrefix (g.S.Sink.held c.args.sink.now) (g.S.Sink.held c.write_pieces.new.sink) (repeat c.args.times first) =
    subst (AppendsPrefix (g.S.Sink.held c.args.sink.now) (g.S.Sink.held c.write_pieces.new.sink)) whole
    (AppendsPrefix-front (take (c.args.times % many * c.args.stride) rows) c.in_err-write_pieces.ensures.part) in
    on_refusal _ part

pub returns-in_err-write_all-clause-part : goal.returns-in_err-write_all-clause-part
returns-in_err-write_all-clause-part g c =
    let first = take c.args.stride c.args.rows.now in
    let rows = c.copy_rows.new.rows in
    let many = c.min-many.result in
    let whole : repeat (c.args.times / many) (take (many * c.args.stride) rows) ++ take (c.args.times % many * c.args.stride) rows ≡ repeat c.args.times first =
    pieces-whole rows first c.args.stride many c.args.times (length-take-le c.args.stride c.args.rows.now c.requires.fits) (omega arith) c.copy_rows.ensures.copies in
    let part : AppendsPrefix (g.S.Sink.held c.args.sink.now) (g.S.Sink.held c.write_all.new.sink) (repeat c.args.times first) =
    subst (AppendsPrefix (g.S.Sink.held c.args.sink.now) (g.S.Sink.held c.write_all.new.sink)) whole
    (AppendsPrefix-after (repeat (c.args.times / many) (take (many * c.args.stride) rows)) c.in_ok-write_pieces.ensures.whole c.in_err-write_all.ensures.part) in
    on_refusal _ part

pub returns-clause-whole : goal.returns-clause-whole
returns-clause-whole g c =
    let first = take c.args.stride c.args.rows.now in
    let rows = c.copy_rows.new.rows in
    let many = c.min-many.result in
    let whole : repeat (c.args.times / many) (take (many * c.args.stride) rows) ++ take (c.args.times % many * c.args.stride) rows ≡ repeat c.args.times first =
    pieces-whole rows first c.args.stride many c.args.times (length-take-le c.args.stride c.args.rows.now c.requires.fits) (omega arith) c.copy_rows.ensures.copies in
    subst (Appends (g.S.Sink.held c.args.sink.now) (g.S.Sink.held c.write_all.new.sink)) whole
    (Appends-trans (g.S.Sink.held c.args.sink.now) (g.S.Sink.held c.write_pieces.new.sink) (g.S.Sink.held c.write_all.new.sink) _ _ c.in_ok-write_pieces.ensures.whole c.in_ok-write_all.ensures.whole)
