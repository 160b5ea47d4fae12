use Rattle.std.proofs.Common.{◌≡◌, ◌+◌, ◌++◌, length, take, drop}
use Rattle.rs_encode.specs.Division.{moved}
use Rattle.rs_encode.proofs.division.move_power.Given as goal

abbrev pub invariant-loop-i : goal.invariant-loop-i
invariant-loop-i g l = record {
  room : length l.registers ≡ length l.initial.registers;
  done : take l.i l.registers ++ moved g.F.Field.plus g.F.Field.times g.F.Field.power (g.F.Field.power l.log) (drop (l.i + 1) l.registers) (drop l.i l.exponents) ≡
      moved g.F.Field.plus g.F.Field.times g.F.Field.power (g.F.Field.power l.log) (drop 1 l.initial.registers) l.exponents;
}
