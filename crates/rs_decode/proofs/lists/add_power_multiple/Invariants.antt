use Rattle.std.proofs.Common.{◌≡◌, ◌++◌, take, drop}
use Rattle.galois.specs.Coefficients.{added}
use Rattle.rs_decode.proofs.lists.add_power_multiple.Given as goal

abbrev pub invariant-loop-i : goal.invariant-loop-i
invariant-loop-i g l =
    take l.i l.target ++ added g.F.Field.plus g.F.Field.times (g.F.Field.power l.exponent) (drop l.i l.target) (drop l.i l.source) ≡
    added g.F.Field.plus g.F.Field.times (g.F.Field.power l.exponent) l.initial.target l.source
