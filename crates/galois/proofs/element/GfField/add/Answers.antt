use Rattle.std.proofs.Common.{refl}
use Rattle.galois.specs.FieldLaws.{same_made, sum_within}
use Rattle.galois.proofs.element.GfField.add.Goals as goal

pub invariant_of-result : goal.invariant_of-result
invariant_of-result g c = record { in_range = sum_within g.P.Poly.primitive _ _ c.args.self.in_range c.args.other.in_range }

pub returns : goal.returns
returns g c = same_made (λ n within. record { number = n; of = record {}; in_range = within }) _ _ _ _ refl
