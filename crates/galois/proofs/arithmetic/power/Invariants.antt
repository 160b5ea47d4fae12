use Rattle.std.proofs.Common.{◌≡◌, ◌≤◌, ◌%◌, ◌^◌}
use Rattle.galois.specs.Polynomials.{power_of}
use Rattle.galois.proofs.arithmetic.power.Given as goal

abbrev pub invariant-loop-i : goal.invariant-loop-i
invariant-loop-i g l = record {
  total_is : l.total ≡ power_of g.P.Poly.BITS g.P.Poly.POLY l.base (l.exponent % 2 ^ l.i);
  square_is : l.square ≡ power_of g.P.Poly.BITS g.P.Poly.POLY l.base (2 ^ l.i);
  total_within : l.total ≤ g.P.Poly.ORDER;
  square_within : l.square ≤ g.P.Poly.ORDER;
}
