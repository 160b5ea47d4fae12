use Rattle.std.proofs.Common.{◌≡◌, ◌+◌, ◌++◌, ℕ, List, length, take, drop}
use Rattle.rs_encode.specs.Division.{moved}
use Rattle.rs_encode.specs.Rows.{IsProduct}
use Rattle.rs_encode.proofs.rows.add_rows.Given as goal

abbrev pub invariant-loop-i : goal.invariant-loop-i
invariant-loop-i g l = record {
  room : length l.registers ≡ length l.initial.registers;
  done : (x y z : g.row.F.Denot) (exponents : List ℕ) → length exponents ≡ length l.initial.registers →
      IsProduct g.F.Field.times g.F.Field.power g.F.Field.value exponents l.rows l.a x → IsProduct g.F.Field.times g.F.Field.power g.F.Field.value exponents l.rows l.b y →
      IsProduct g.F.Field.times g.F.Field.power g.F.Field.value exponents l.rows l.c z →
      take l.i l.registers ++ moved g.F.Field.plus g.F.Field.times g.F.Field.power (g.F.Field.plus x (g.F.Field.plus y z)) (drop (l.i + 1) l.registers) (drop l.i exponents) ≡
      moved g.F.Field.plus g.F.Field.times g.F.Field.power (g.F.Field.plus x (g.F.Field.plus y z)) (drop 1 l.initial.registers) exponents;
}
