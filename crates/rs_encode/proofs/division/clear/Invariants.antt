use Rattle.std.proofs.Common.{◌≡◌, replicate, take}
use Rattle.rs_encode.proofs.division.clear.Given as goal

abbrev pub invariant-loop-register : goal.invariant-loop-register
invariant-loop-register g l = take l.register-index l.registers ≡ replicate l.register-index g.F.Field.nought
