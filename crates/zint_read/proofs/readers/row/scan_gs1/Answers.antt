use Rattle.std.proofs.Common.{◌≡◌, ◌∙◌, Some, slice_get, sym, ap}
use Rattle.bar_base.specs.declared.element.Element.{Element}
use Rattle.bar_base.specs.declared.element.Element.TheVariants.{Fnc1}
use Rattle.zint_read.proofs.RowRefusals.{behind_fnc1}
use Rattle.zint_read.proofs.readers.row.scan_gs1.Goals as goal

pub returns-in_ok-shown-in-Some-Fnc1 : goal.returns-in_ok-shown-in-Some-Fnc1
returns-in_ok-shown-in-Some-Fnc1 c =
    let first : slice_get c.args.body.now 0 ≡ Some Fnc1 = sym c.get.ensures.found ∙ c.in-Some-Fnc1.is ∙ ap (λ (e : Element). Some e) c.in-Some-Fnc1.field-0-is in
    behind_fnc1 (λ text. text.items) c.args.body.now c.in_ok-rest-in-Some-Fnc1.rest c.in_ok-shown-in-Some-Fnc1.shown first
    c.in_ok-rest-in-Some-Fnc1.ensures c.in_ok-shown-in-Some-Fnc1.ensures
