use Rattle.std.proofs.Common.{◌∙◌, ◌++◌, subst}
use Rattle.std.specs.Io.KnownBytes.{Appends}
use Rattle.std.proofs.KnownBytes.{Appends-trans}
use Rattle.bar_base.proofs.Appended.{AppendsPrefix-after, on_refusal}
use Rattle.zint_answers.specs.FaultLine.{fault_front}
use Rattle.zint_answers.proofs.fault_line.write_line.Goals as goal

pub returns-in_err-write_all-3-clause-part : goal.returns-in_err-write_all-3-clause-part
returns-in_err-write_all-3-clause-part g c =
    let old = g.S.Sink.held c.args.sink.now in
    let mid = g.S.Sink.held c.write_all.new.sink in
    let front : Appends old mid (fault_front c.args.status) =
    subst (Appends old mid) (c.as_slice.ensures.value ∙ c.fault_front-front.ensures) c.in_ok-write_all.ensures.whole in
    on_refusal _ (AppendsPrefix-after (fault_front c.args.status ++ c.args.detail.now)
    (Appends-trans old mid (g.S.Sink.held c.write_all-2.new.sink) _ _ front c.in_ok-write_all-2.ensures.whole) c.in_err-write_all-3.ensures.part)
