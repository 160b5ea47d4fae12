use Rattle.std.proofs.Common.{◌≡◌, ◌+◌, sum, false, cond}
use Rattle.code128_best.specs.Costs.{IsTable, IsSettled}
use Rattle.code128_best.proofs.sweeps.settle.Given as goal

abbrev pub invariant-loop-changed : goal.invariant-loop-changed
invariant-loop-changed l = record {
  table : IsTable l.costs l.elements;
  settled : l.changed ≡ false → IsSettled l.costs l.elements;
}

abbrev pub decreases-loop-changed : goal.decreases-loop-changed
decreases-loop-changed l = sum l.costs + cond l.changed 1 0
