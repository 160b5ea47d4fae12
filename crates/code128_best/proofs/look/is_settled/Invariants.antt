use Rattle.std.proofs.Common.{◌<◌}
use Rattle.code128_best.specs.declared.stepping.Stand.{Stand}
use Rattle.code128_best.specs.Costs.{IsStable}
use Rattle.code128_best.proofs.look.is_settled.Given as goal

abbrev pub invariant-loop-place : goal.invariant-loop-place
invariant-loop-place l = (at : Stand) → at.place < l.place → IsStable l.costs l.elements at
