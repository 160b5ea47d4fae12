use Rattle.std.proofs.Common.{◌∙◌, sym, subst, Some}
use Rattle.std.specs.String.{string_bytes}
use Rattle.eci_sets.specs.Encodings.{IsDecodingFault, IsEncodedIn}
use Rattle.eci_sets.proofs.OneText.{decode_given, decode_faulty}
use Rattle.eci_sets.proofs.decoding.decode.Goals as goal

pub returns-in-Some-clause-given : goal.returns-in-Some-clause-given
returns-in-Some-clause-given c text is =
    decode_given (λ s. string_bytes s) (Some c.in-Some.set) c.decode_in.result c.args.bytes.now text c.decode_in.ensures.encoded c.decode_in.ensures.refused
    (subst (λ o. IsEncodedIn o text c.args.bytes.now) (sym c.set_numbered.ensures ∙ c.in-Some.is) is)

pub returns-in-Some-clause-faulty : goal.returns-in-Some-clause-faulty
returns-in-Some-clause-faulty c f is =
    decode_faulty (λ s. string_bytes s) (Some c.in-Some.set) c.decode_in.result c.args.bytes.now f c.decode_in.ensures.encoded c.decode_in.ensures.refused
    (subst (λ o. IsDecodingFault o c.args.bytes.now f) (sym c.set_numbered.ensures ∙ c.in-Some.is) is)
