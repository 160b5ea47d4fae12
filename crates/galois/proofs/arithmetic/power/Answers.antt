use Rattle.std.proofs.Common.{arith, ap, sym, ◌∙◌}
use Rattle.std.proofs.Math.Nat.{mod-one}
use Rattle.galois.specs.Polynomials.{power_of}
use Rattle.galois.specs.FieldLaws.{below_of, one_within}
use Rattle.galois.specs.PowerLaws.{power-zero, power-one}
use Rattle.galois.proofs.StepLemmas.{factor_within, power-last, power-next_bit, power-doubled}
use Rattle.galois.proofs.arithmetic.power.Goals as goal

pub loop-i-init : goal.loop-i-init
loop-i-init g c = record {
  total_is = sym (ap (power_of g.P.Poly.BITS g.P.Poly.POLY c.args.base) (mod-one c.args.exponent) ∙ power-zero g.P.Poly.BITS g.P.Poly.POLY c.args.base);
  square_is = sym (power-one g.P.Poly.primitive c.args.base (below_of g.P.Poly.primitive c.args.base c.requires.base));
  total_within = one_within g.P.Poly.primitive;
  square_within = c.requires.base;
}

pub product-total-requires-clause-right : goal.product-total-requires-clause-right
product-total-requires-clause-right g c =
    factor_within c.coefficient.result c.loop-i.square c.factor.result g.P.Poly.ORDER c.coefficient.ensures.bit
    c.factor.ensures.on c.factor.ensures.off (one_within g.P.Poly.primitive) c.loop-i.invariant.square_within

pub loop-i-preserved : goal.loop-i-preserved
loop-i-preserved g c = record {
  total_is = power-next_bit g.P.Poly.primitive c.args.base c.args.exponent c.loop-i.i c.loop-i.total c.loop-i.square c.coefficient.result c.factor.result c.product-total.result
      c.requires.base c.loop-i.invariant.total_is c.loop-i.invariant.square_is c.coefficient.ensures.value c.coefficient.ensures.bit
      c.factor.ensures.on c.factor.ensures.off c.product-total.ensures.value;
  square_is = power-doubled g.P.Poly.primitive c.args.base c.loop-i.i c.loop-i.square c.product-square.result
      c.requires.base c.loop-i.invariant.square_is c.product-square.ensures.value;
  total_within = c.product-total.ensures.within;
  square_within = c.product-square.ensures.within;
}

pub returns-clause-value : goal.returns-clause-value
returns-clause-value g c =
    power-last g.P.Poly.primitive c.args.base c.args.exponent c.loop-i.i c.loop-i.total c.requires.exponent
    (omega (arith, c.BITS-i-end.ensures)) c.loop-i.invariant.total_is
