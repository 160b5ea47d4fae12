use Rattle.std.proofs.Common.{length, ◌-◌}
use Rattle.bar_base.proofs.Written.{WrittenSoFar}
use Rattle.bar_base.proofs.writing.write_all.Given as goal

abbrev pub invariant-loop-done : goal.invariant-loop-done
invariant-loop-done g l =
    WrittenSoFar (g.S.Sink.held l.initial.sink) (g.S.Sink.held l.sink) l.piece l.done (g.S.Sink.faults l.initial.sink) (g.S.Sink.faults l.sink) (g.S.Sink.rest l.initial.sink) (g.S.Sink.rest l.sink)

abbrev pub decreases-loop-done : goal.decreases-loop-done
decreases-loop-done g l = length l.piece - l.done
