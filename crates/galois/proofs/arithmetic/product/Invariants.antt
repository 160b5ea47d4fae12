use Rattle.std.proofs.Common.{◌≡◌, ◌≤◌}
use Rattle.galois.specs.MultipleLaws.{turned, multiple}
use Rattle.galois.proofs.arithmetic.product.Given as goal

abbrev pub invariant-loop-i : goal.invariant-loop-i
invariant-loop-i g l = record {
  summed : l.total ≡ multiple g.P.Poly.BITS g.P.Poly.POLY l.i l.b l.a;
  shifted : l.multiple ≡ turned g.P.Poly.BITS g.P.Poly.POLY l.i l.a;
  within : l.multiple ≤ g.P.Poly.ORDER;
}
