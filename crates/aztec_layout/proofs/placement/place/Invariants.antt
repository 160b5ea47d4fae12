use Rattle.std.proofs.Common.{◌≡◌, ◌≤◌}
use Rattle.aztec_layout.specs.Places.{bits_before}
use Rattle.aztec_layout.proofs.placement.place.Given as goal

abbrev pub invariant-loop-layer : goal.invariant-loop-layer
invariant-loop-layer l = (l.before ≡ bits_before l.size l.layer) × (l.before ≤ l.bit)
