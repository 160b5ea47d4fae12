use Rattle.std.proofs.Common.{◌≡◌, ◌+◌, ◌*◌, ◌<◌, ◌≤◌, ℕ, length, get_or}
use Rattle.rs_encode.specs.Rows.{row_number}
use Rattle.rs_encode.proofs.rows.fill_row.Given as goal

abbrev pub invariant-loop-i : goal.invariant-loop-i
invariant-loop-i g l = record {
  room : length l.rows ≡ 24576;
  kept : (j : ℕ) → j < l.row * 512 → get_or l.rows j 0 ≡ get_or l.initial.rows j 0;
  products : (x : g.row.F.Denot) → g.F.Field.value x ≡ row_number l.row → (i : ℕ) → i < l.i →
      get_or l.rows (l.row * 512 + i) 0 ≡ g.F.Field.value (g.F.Field.times x (g.F.Field.power (get_or l.exponents i 0)));
  below : (i : ℕ) → i < l.i → get_or l.rows (l.row * 512 + i) 0 ≤ g.F.Field.ORDER;
}
