use Rattle.std.proofs.Common.{◌≡◌, take}
use Rattle.rs_decode.proofs.check_words.are_same.Given as goal

abbrev pub invariant-loop-i : goal.invariant-loop-i
invariant-loop-i g l = take l.i l.former ≡ take l.i l.latter
