use Rattle.bar_base.proofs.Appended.{on_refusal}
use Rattle.bar_base.proofs.Taken.{TakesPrefix-after}
use Rattle.bar_base.proofs.reading.read_all.Goals as goal

pub returns-in_err-take_more-clause-part : goal.returns-in_err-take_more-clause-part
returns-in_err-take_more-clause-part g c =
    on_refusal c.from_residual.result (TakesPrefix-after c.loop-bytes.bytes.items c.loop-bytes.invariant.taken c.in_err-take_more.ensures.part)
