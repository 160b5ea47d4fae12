use Rattle.std.proofs.Common.{ℕ, List, IfOk, MatchOption, subst}
use Rattle.std.specs.String.{string_bytes}
use Rattle.bar_base.specs.declared.element.Element.{Element}
use Rattle.eci_sets.specs.JoinedTexts.{IsJoinedText}
use Rattle.eci_sets.proofs.Walking.{only_text}
use Rattle.eci_sets.proofs.joined_text.text_of.Goals as goal

pub returns-clause-text : goal.returns-clause-text
returns-clause-text c =
    subst (λ (es : List Element). IfOk c.text_of_elements.result (λ o. MatchOption o ((text : List ℕ) → IsJoinedText c.args.eci es text → ⊥)
    (λ s. IsJoinedText c.args.eci es (string_bytes s)))) c.as_slice.ensures.same c.text_of_elements.ensures

pub returns-clause-one_text : goal.returns-clause-one_text
returns-clause-one_text c = only_text c.args.eci c.args.body.now
