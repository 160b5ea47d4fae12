use Rattle.std.proofs.Common.{refl}
use Rattle.galois.specs.FieldLaws.{same_made}
use Rattle.galois.proofs.element.GfField.zero.Goals as goal

pub returns : goal.returns
returns g c = same_made (λ n within. record { number = n; of = record {}; in_range = within }) _ _ _ _ refl
