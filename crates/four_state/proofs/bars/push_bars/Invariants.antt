use Rattle.std.proofs.Common.{◌≡◌, ◌+◌, ◌*◌, ◌++◌, take, vec_len}
use Rattle.std.specs.List.{flat_map}
use Rattle.four_state.specs.FourState.{long_bars}
use Rattle.four_state.proofs.bars.push_bars.Given as goal

abbrev pub invariant-loop-number : goal.invariant-loop-number
invariant-loop-number l = record {
  bars : l.found.items ≡ l.initial.found.items ++ flat_map long_bars (take l.number-index l.numbers);
  long : vec_len l.found ≡ vec_len l.initial.found + 4 * l.number-index;
}
