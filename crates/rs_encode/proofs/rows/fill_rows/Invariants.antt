use Rattle.std.proofs.Common.{◌≡◌, length}
use Rattle.rs_encode.specs.Rows.{HasRows}
use Rattle.rs_encode.proofs.rows.fill_rows.Given as goal

abbrev pub invariant-loop-row : goal.invariant-loop-row
invariant-loop-row g l = record {
  room : length l.rows ≡ 24576;
  rows : HasRows g.F.Field.times g.F.Field.power g.F.Field.value g.F.Field.ORDER l.exponents l.rows l.row;
}
