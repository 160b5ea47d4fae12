use Rattle.std.proofs.Common.{◌≡◌}
use Rattle.code128_best.specs.Steps.{kept_values}
use Rattle.code128_best.specs.Spelling.{plain}
use Rattle.code128_best.specs.Picks.{IsOnWay}
use Rattle.code128_best.proofs.drawing.values_from.Given as goal

abbrev pub invariant-loop-left : goal.invariant-loop-left
invariant-loop-left l = record {
  on_way : IsOnWay l.costs l.elements l.fn.start.value (plain l.fn.start.set) l.values.items l.at;
  cost_here : l.left ≡ kept_values l.costs l.at;
}

abbrev pub decreases-loop-left : goal.decreases-loop-left
decreases-loop-left l = l.left
