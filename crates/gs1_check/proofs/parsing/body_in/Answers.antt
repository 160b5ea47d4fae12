use Rattle.std.proofs.Common.{◌∙◌, false, List, ap, sym, subst, arith}
use Rattle.bar_base.specs.declared.element.Element.{Element}
use Rattle.gs1_check.specs.Sections.{section_fault}
use Rattle.gs1_check.proofs.ReadTexts.{Reading, all_body, all_sound, begun, not_begun, not_there, reads, stopped}
use Rattle.gs1_check.specs.declared.fault.Gs1Fault.TheVariants.{BadBracket}
use Rattle.gs1_check.proofs.TextBodies.{faultless_body, faulty_body, gives_fault}
use Rattle.gs1_check.proofs.parsing.body_in.Goals.{then-is_empty-via-then-is_empty, then-is_empty-via-else-is_empty+then-text-opening}
use Rattle.gs1_check.proofs.parsing.body_in.Goals as goal

pub returns-then-is_empty : goal.returns-then-is_empty
returns-then-is_empty c = elim c.then-is_empty.branch [
  | then-is_empty-via-then-is_empty w ↦ faulty_body c.args.brackets c.args.text.now (BadBracket 0) (not_there c.args.brackets c.args.text.now (sym w.if-is_empty.ensures))
  | then-is_empty-via-else-is_empty+then-text-opening w ↦ faulty_body c.args.brackets c.args.text.now (BadBracket 0) (not_begun c.args.brackets c.args.text.now (λ e. w.if-text-opening.true (e ∙ sym w.opening.ensures)))
]

pub loop-place-init : goal.loop-place-init
loop-place-init c =
    subst (λ (body : List Element). Reading c.args.brackets c.args.text.now 0 false body) (sym c.new-body.ensures.empty)
    (begun c.args.brackets c.args.text.now (grind arith) (c.if-text-opening.false ∙ c.opening.ensures))

pub section_fault-requires : goal.section_fault-requires
section_fault-requires c = omega arith

pub returns-in-Some : goal.returns-in-Some
returns-in-Some c =
    gives_fault c.args.brackets c.args.text.now c.in-Some.fault (stopped c.args.brackets c.args.text.now c.loop-place.place c.loop-place.owed c.loop-place.body c.in-Some.fault c.loop-place.invariant (omega arith)
    (ap (section_fault c.args.brackets c.loop-place.place) (sym c.section_at-section.ensures.section) ∙ sym c.section_fault.ensures ∙ c.in-Some.is))

pub loop-place-preserved : goal.loop-place-preserved
loop-place-preserved c =
    reads c.args.brackets c.args.text.now c.loop-place.place c.loop-place.owed c.loop-place.body c.section_at-section.result.now c.needs_separator-owed.result c.push_string.new.body
    c.loop-place.invariant (omega arith) c.section_at-section.ensures.section (sym c.section_fault.ensures ∙ c.in-None.is) c.needs_separator-owed.ensures c.in_ok-push_string.ensures

pub returns : goal.returns
returns c =
    faultless_body c.args.brackets c.args.text.now c.loop-place.body
    (all_sound c.args.brackets c.args.text.now c.loop-place.place c.loop-place.owed c.loop-place.body c.loop-place.invariant (omega arith))
    (all_body c.args.brackets c.args.text.now c.loop-place.place c.loop-place.owed c.loop-place.body c.loop-place.invariant (omega arith))
