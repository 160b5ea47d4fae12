use Rattle.std.proofs.Common.{◌≤◌, ◌-◌, length, vec_capacity}
use Rattle.aztec_best.proofs.bench.make_lows.Given as goal

abbrev pub invariant-loop-longs : goal.invariant-loop-longs
invariant-loop-longs l = record {
  shorter : length l.longs.items ≤ 2048;
  reserved : 2048 ≤ vec_capacity l.longs;
}

abbrev pub decreases-loop-longs : goal.decreases-loop-longs
decreases-loop-longs l = l.count - length l.longs.items
