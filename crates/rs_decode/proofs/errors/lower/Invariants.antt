use Rattle.std.proofs.Common.{◌≡◌, ◌++◌, take, drop}
use Rattle.rs_decode.specs.Values.{lowered}
use Rattle.rs_decode.proofs.errors.lower.Given as goal

abbrev pub invariant-loop-i : goal.invariant-loop-i
invariant-loop-i g l =
    take l.i l.sums ++ lowered g.F.Field.plus g.F.Field.times (g.F.Field.power l.place) l.before (drop l.i l.sums) ≡
    lowered g.F.Field.plus g.F.Field.times (g.F.Field.power l.place) l.fn.first l.initial.sums
