use Rattle.std.proofs.Common.{◌∙◌, sym, subst, Some}
use Rattle.eci_sets.specs.Encodings.{IsEncodedIn}
use Rattle.eci_sets.proofs.OneText.{encode_given}
use Rattle.eci_sets.proofs.encoding.encode.Goals as goal

pub returns-in-Some-clause-given : goal.returns-in-Some-clause-given
returns-in-Some-clause-given c bytes is =
    encode_given (λ v. v.items) (Some c.in-Some.set) c.encode_in.result c.args.text.now bytes c.encode_in.ensures.encoded c.encode_in.ensures.gives
    (subst (λ o. IsEncodedIn o c.args.text.now bytes) (sym c.set_numbered.ensures ∙ c.in-Some.is) is)
