use Rattle.std.proofs.Common.{◌∙◌, arith}
use Rattle.galois.specs.FieldLaws.{same_made, alpha_within}
use Rattle.galois.specs.PowerLaws.{power-mod, order_positive}
use Rattle.galois.proofs.element.GfField.alpha.Goals as goal

pub nonzero_rem-k : goal.nonzero_rem-k
nonzero_rem-k g c = omega (arith, order_positive g.P.Poly.primitive, c.ORDER.ensures)

pub power-requires-clause-base : goal.power-requires-clause-base
power-requires-clause-base g c = alpha_within g.P.Poly.primitive

pub power-requires-clause-exponent : goal.power-requires-clause-exponent
power-requires-clause-exponent g c = omega (arith, order_positive g.P.Poly.primitive, c.ORDER.ensures)

pub returns : goal.returns
returns g c = same_made (λ n within. record { number = n; of = record {}; in_range = within }) _ _ _ _
    (c.numbered.ensures ∙ rw c.ORDER.ensures at c.power.ensures.value ∙ power-mod g.P.Poly.primitive c.args.k)
