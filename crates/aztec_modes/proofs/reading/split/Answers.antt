use Rattle.std.proofs.Common.{arith, refl, sym, ap, subst, ◌∙◌, ◌≤◌, drop, length, List}
use Rattle.std.specs.Prelude.{Bool, is_some}
use Rattle.aztec_modes.proofs.SplitMessages.{plain_split, header_split, no_header, header_within, split_kind}
use Rattle.aztec_modes.specs.Reading.{SplitsSo}
use Rattle.aztec_modes.proofs.reading.split.Goals as goal

pub returns-then-not-marked-clause-split : goal.returns-then-not-marked-clause-split
returns-then-not-marked-clause-split c =
    split_kind c.args.elements.now c.in_ok-message_from.field-0 (sym c.if-not-marked.true)
    (plain_split c.args.elements.now c.in_ok-message_from.field-0 c.in_ok-message_from.ensures.append c.in_ok-message_from.ensures.split)

pub message_from-requires-in-Some : goal.message_from-requires-in-Some
message_from-requires-in-Some c = record {
  within = omega (arith, c.header_size-at.ensures, header_within c.args.elements.now c.in-Some.append (sym c.header_of.ensures ∙ c.in-Some.is));
}

pub returns-in-None-clause-refused : goal.returns-in-None-clause-refused
returns-in-None-clause-refused c = (refl, c.if-not-marked.false, no_header c.args.elements.now (sym c.header_of.ensures ∙ c.in-None.is))

pub returns-in_ok-message_from-in-Some-clause-split : goal.returns-in_ok-message_from-in-Some-clause-split
returns-in_ok-message_from-in-Some-clause-split c =
    split_kind c.args.elements.now c.in_ok-message_from-in-Some.field-0 (sym c.if-not-marked.false)
    (header_split c.args.elements.now c.in-Some.append c.in_ok-message_from-in-Some.field-0 (sym c.header_of.ensures ∙ c.in-Some.is) c.in_ok-message_from-in-Some.ensures.append
    (subst (λ n. SplitsSo c.in_ok-message_from-in-Some.field-0 (drop n c.args.elements.now)) c.header_size-at.ensures c.in_ok-message_from-in-Some.ensures.split))
