use Rattle.std.proofs.Common.{◌≤◌, ◌-◌, length, vec_capacity}
use Rattle.aztec_best.proofs.bench.make_rows.Given as goal

abbrev pub invariant-loop-costs : goal.invariant-loop-costs
invariant-loop-costs l = record {
  shorter : length l.costs.items ≤ 8193;
  reserved : 8193 ≤ vec_capacity l.costs;
}

abbrev pub decreases-loop-costs : goal.decreases-loop-costs
decreases-loop-costs l = l.count - length l.costs.items
