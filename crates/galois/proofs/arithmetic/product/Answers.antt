use Rattle.std.proofs.Common.{arith, refl}
use Rattle.galois.specs.FieldLaws.{product_within}
use Rattle.galois.specs.MultipleLaws.{turned, multiple}
use Rattle.galois.proofs.StepLemmas.{multiple-next, multiple-last, turned-next, product_two}
use Rattle.galois.proofs.arithmetic.product.Goals as goal

pub loop-i-init : goal.loop-i-init
unfolding turned multiple
loop-i-init g c = record { summed = refl; shifted = refl; within = c.requires.left }

pub loop-i-preserved : goal.loop-i-preserved
loop-i-preserved g c = record {
  summed = multiple-next g.P.Poly.BITS g.P.Poly.POLY c.loop-i.i c.args.a c.args.b c.loop-i.total c.coefficient.result c.loop-i.multiple c.masked-total.result
      c.loop-i.invariant.summed c.loop-i.invariant.shifted c.coefficient.ensures.value c.masked-total.ensures;
  shifted = turned-next g.P.Poly.BITS g.P.Poly.POLY c.loop-i.i c.args.a c.loop-i.multiple c.times_x-multiple.result
      c.loop-i.invariant.shifted c.times_x-multiple.ensures.value;
  within = c.times_x-multiple.ensures.within;
}

pub returns-clause-value : goal.returns-clause-value
returns-clause-value g c =
    multiple-last g.P.Poly.primitive c.loop-i.i c.args.a c.args.b c.loop-i.total c.requires.left
    (omega (arith, c.BITS-i-end.ensures)) c.loop-i.invariant.summed

pub returns-clause-within : goal.returns-clause-within
returns-clause-within g c =
    rw (returns-clause-value g c) (product_within g.P.Poly.primitive c.args.a c.args.b c.requires.left)

pub returns-then-b-eq2-clause-value : goal.returns-then-b-eq2-clause-value
returns-then-b-eq2-clause-value g c =
    product_two g.P.Poly.primitive c.args.a c.args.b c.times_x.result c.requires.left c.if-b-eq2.true c.times_x.ensures.value
