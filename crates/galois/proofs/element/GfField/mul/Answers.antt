use Rattle.std.proofs.Common.{◌∙◌}
use Rattle.galois.specs.FieldLaws.{same_made}
use Rattle.galois.proofs.element.GfField.mul.Goals as goal

pub returns : goal.returns
returns g c = same_made (λ n within. record { number = n; of = record {}; in_range = within }) _ _ _ _
    (c.numbered.ensures ∙ rw (c.from.ensures, c.from-2.ensures) at c.product.ensures.value)
