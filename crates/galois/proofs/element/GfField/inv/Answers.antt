use Rattle.std.proofs.Common.{◌∙◌, arith}
use Rattle.galois.specs.FieldLaws.{same_made}
use Rattle.galois.specs.PowerLaws.{order_positive}
use Rattle.galois.proofs.element.GfField.inv.Goals as goal

pub overflow_sub-ORDER : goal.overflow_sub-ORDER
overflow_sub-ORDER g c = omega (arith, order_positive g.P.Poly.primitive, c.ORDER.ensures)

pub returns : goal.returns
returns g c = same_made (λ n within. record { number = n; of = record {}; in_range = within }) _ _ _ _
    (c.numbered.ensures ∙ rw (c.ORDER.ensures, c.from.ensures) at c.power.ensures.value)
