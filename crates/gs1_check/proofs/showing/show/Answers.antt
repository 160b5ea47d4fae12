use Rattle.std.proofs.Common.{List, IfOk, MatchOption, subst}
use Rattle.bar_base.specs.declared.element.Element.{Element}
use Rattle.gs1_check.specs.LeadingStrings.{HasNoText, IsOnlyText}
use Rattle.gs1_check.proofs.showing.show.Goals as goal

pub returns : goal.returns
returns c =
    subst (λ (es : List Element). IfOk c.show_elements.result (λ o. MatchOption o (HasNoText es) (λ text. IsOnlyText text.items es))) c.as_slice.ensures.same c.show_elements.ensures
