use Rattle.std.proofs.Common.{◌≡◌, length, take}
use Rattle.rs_encode.specs.Division.{Completes}
use Rattle.rs_encode.proofs.rows.divide_by_rows.Given as goal

abbrev pub invariant-loop-element : goal.invariant-loop-element
invariant-loop-element g l = record {
  room : length l.registers ≡ length l.initial.registers;
  held : Completes g.F.Field.nought g.F.Field.plus g.F.Field.times g.F.Field.power (take l.element-index l.word) l.registers;
}
