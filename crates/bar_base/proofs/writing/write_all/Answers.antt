use Rattle.bar_base.proofs.Written.{WrittenSoFar-more}
use Rattle.bar_base.proofs.writing.write_all.Goals as goal

pub loop-done-preserved : goal.loop-done-preserved
loop-done-preserved g c =
    let write = c.in_ok-done.ensures in
    WrittenSoFar-more {done = c.loop-done.done} {n = c.in_ok-done.field-0} c.loop-done.invariant write.bound write.appended write.cause.later write.rest
