use Rattle.std.proofs.Common.{◌≡◌, ◌≤◌, All, map, take, vec_len}
use Rattle.four_state.specs.FourState.{row}
use Rattle.four_state.proofs.symbol.rows.Given as goal

abbrev pub invariant-loop-index : goal.invariant-loop-index
invariant-loop-index l = record {
  whole : l.rows.items ≡ map row (take l.index-index l.indices);
  some : All (λ row. 1 ≤ row) l.rows.items;
  small : All (λ row. row ≤ 6) l.rows.items;
  long : vec_len l.rows ≡ l.index-index;
}
