use Rattle.std.proofs.Common.{◌≡◌, ◌≤◌, All, map, take, vec_len}
use Rattle.four_state.specs.FourState.{column}
use Rattle.four_state.proofs.symbol.columns.Given as goal

abbrev pub invariant-loop-index : goal.invariant-loop-index
invariant-loop-index l = record {
  whole : l.columns.items ≡ map column (take l.index-index l.indices);
  some : All (λ column. 1 ≤ column) l.columns.items;
  small : All (λ column. column ≤ 6) l.columns.items;
  long : vec_len l.columns ≡ l.index-index;
}
