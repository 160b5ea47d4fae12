use Rattle.std.proofs.Common.{List, subst}
use Rattle.bar_base.specs.declared.element.Element.{Element}
use Rattle.code128_best.specs.Spelling.{AreDrawnValues}
use Rattle.code128_best.proofs.WayLaws.{drawn_once}
use Rattle.code128_best.proofs.drawing.shortest.Goals as goal

pub returns-clause-only : goal.returns-clause-only
returns-clause-only c others drawn =
    drawn_once c.args.body.now c.in_ok-values.values others
    (subst (λ (elements : List Element). AreDrawnValues elements c.in_ok-values.values) c.as_slice.ensures.same c.in_ok-values.ensures) drawn
