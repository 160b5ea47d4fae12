use Rattle.std.proofs.Common.{◌≡◌, length}
use Rattle.rs_decode.proofs.lists.zeros.Given as goal

abbrev pub invariant-loop-place : goal.invariant-loop-place
invariant-loop-place g l = length l.list.items ≡ l._place
