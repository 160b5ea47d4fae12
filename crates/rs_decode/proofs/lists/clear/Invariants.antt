use Rattle.std.proofs.Common.{◌≡◌, replicate, take}
use Rattle.rs_decode.proofs.lists.clear.Given as goal

abbrev pub invariant-loop-element : goal.invariant-loop-element
invariant-loop-element g l = take l.element-index l.list ≡ replicate l.element-index g.F.Field.nought
