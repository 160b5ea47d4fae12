use Rattle.std.proofs.Common.{inr, refl, subst, sym}
use Rattle.std.specs.Str.{IsValidUpTo}
use Rattle.eci_sets.proofs.Utf8Texts.{utf8_stops}
use Rattle.eci_sets.proofs.decoding.decode_utf8.Goals as goal

pub returns-in-Err-clause-refused : goal.returns-in-Err-clause-refused
returns-in-Err-clause-refused c = inr (c.valid_up_to.result, utf8_stops c.args.bytes.now c.valid_up_to.result (subst (IsValidUpTo c.args.bytes.now) (sym c.valid_up_to.ensures) c.in-Err.ensures.cases.1), refl)
