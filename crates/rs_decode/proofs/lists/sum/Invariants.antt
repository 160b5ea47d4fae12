use Rattle.std.proofs.Common.{◌≡◌, drop}
use Rattle.galois.specs.Coefficients.{total}
use Rattle.rs_decode.proofs.lists.sum.Given as goal

abbrev pub invariant-loop-element : goal.invariant-loop-element
invariant-loop-element g l = g.F.Field.plus l.sum (total g.F.Field.nought g.F.Field.plus (drop l.element-index l.list)) ≡ total g.F.Field.nought g.F.Field.plus l.list
