use Rattle.std.proofs.Common.{◌≡◌, ◌∙◌, inl, inr, sym, subst, drop}
use Rattle.aztec_modes.specs.declared.code.Code.{Code}
use Rattle.aztec_modes.specs.declared.code.Code.TheVariants.{Latch}
use Rattle.aztec_modes.specs.Entry.{SpellsFront}
use Rattle.aztec_best.proofs.ControlPicks.{latch_at_front, latch_picked, shift_control, control_none}
use Rattle.aztec_best.proofs.RunPicks.{binary_there, run_control}
use Rattle.aztec_best.proofs.pick.pick_control.Goals as goal

pub if_cheapest-requires-clause-front : goal.if_cheapest-requires-clause-front
if_cheapest-requires-clause-front c =
    λ x is. let same : Latch c.in-LatchTo.to ≡ x = cc in
    subst (λ (k : Code). SpellsFront c.args.at.mode k (drop c.args.at.place c.args.elements.now)) same
    (latch_at_front c.args.at.mode c.in-LatchTo.to c.args.first (drop c.args.at.place c.args.elements.now) (sym c.symbol_at.ensures ∙ c.in-LatchTo.is))

pub returns-in-LatchTo : goal.returns-in-LatchTo
returns-in-LatchTo c =
    latch_picked c.args.costs.now c.args.elements.now c.args.at.place c.args.at.mode c.in-LatchTo.to c.args.first c.if_cheapest.result (sym c.symbol_at.ensures ∙ c.in-LatchTo.is)
    c.if_cheapest.ensures.found c.if_cheapest.ensures.none

pub returns-in-ShiftTo : goal.returns-in-ShiftTo
returns-in-ShiftTo c =
    shift_control c.args.costs.now c.args.elements.now c.args.at.place c.args.at.mode c.in-ShiftTo.to c.args.first c.pick_shift.result (sym c.symbol_at.ensures ∙ c.in-ShiftTo.is) c.requires.control c.pick_shift.ensures

pub pick_run-requires-clause-binary : goal.pick_run-requires-clause-binary
pick_run-requires-clause-binary c = binary_there c.args.at.mode c.args.first (sym c.symbol_at.ensures ∙ c.in-Binary.is)

pub returns-in-Binary : goal.returns-in-Binary
returns-in-Binary c =
    run_control c.args.costs.now c.args.elements.now c.args.at.place c.args.at.mode c.args.first c.pick_run.result (sym c.symbol_at.ensures ∙ c.in-Binary.is) c.pick_run.ensures

pub returns-in-Absent : goal.returns-in-Absent
returns-in-Absent c = control_none c.args.costs.now c.args.elements.now c.args.at.place c.args.at.mode c.args.first c.requires.control (inl (sym c.symbol_at.ensures ∙ c.in-Absent.is))

pub returns-in-One : goal.returns-in-One
returns-in-One c =
    control_none c.args.costs.now c.args.elements.now c.args.at.place c.args.at.mode c.args.first c.requires.control (inr (inl (c.in-One.field-0, sym c.symbol_at.ensures ∙ c.in-One.is)))

pub returns-in-Two : goal.returns-in-Two
returns-in-Two c =
    control_none c.args.costs.now c.args.elements.now c.args.at.place c.args.at.mode c.args.first c.requires.control (inr (inr (inl (c.in-Two.field-0, c.in-Two.field-1, sym c.symbol_at.ensures ∙ c.in-Two.is))))

pub returns-in-Flag : goal.returns-in-Flag
returns-in-Flag c =
    control_none c.args.costs.now c.args.elements.now c.args.at.place c.args.at.mode c.args.first c.requires.control (inr (inr (inr (sym c.symbol_at.ensures ∙ c.in-Flag.is))))
