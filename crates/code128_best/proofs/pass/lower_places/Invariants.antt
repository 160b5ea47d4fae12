use Rattle.std.proofs.Common.{◌≤◌, ◌+◌, length}
use Rattle.code128_best.specs.Costs.{IsTable}
use Rattle.code128_best.proofs.pass.lower_places.Given as goal

abbrev pub invariant-loop-left : goal.invariant-loop-left
invariant-loop-left l = record {
  table : IsTable l.costs l.elements;
  few : l.left ≤ length l.elements + 1;
}

abbrev pub decreases-loop-left : goal.decreases-loop-left
decreases-loop-left l = l.left
