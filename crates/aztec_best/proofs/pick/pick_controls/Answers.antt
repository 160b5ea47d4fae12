use Rattle.std.proofs.Common.{◌*◌, ◌+◌, subst, arith, Option, None}
use Rattle.aztec_modes.specs.declared.code.Code.{Code}
use Rattle.aztec_best.specs.Numbers.{controls_from}
use Rattle.aztec_best.specs.Picks.{IsFirstOfKind, HasRank}
use Rattle.aztec_best.proofs.Picks.{pick_found, pick_behind}
use Rattle.aztec_best.proofs.pick.pick_controls.Goals as goal

pub loop-first-init : goal.loop-first-init
loop-first-init c = λ other cheap (low, high). absurd (omega (arith, c.controls_from-first.ensures))

pub pick_control-requires-clause-control : goal.pick_control-requires-clause-control
pick_control-requires-clause-control c = omega (arith, c.controls_from-first.ensures, c.loop-first.auto.first)

pub returns-in-Some : goal.returns-in-Some
returns-in-Some c =
    pick_found c.args.costs.now c.args.elements.now c.args.at.place c.args.at.mode (controls_from c.args.at.mode * 4096) (c.loop-first.first * 4096) (c.loop-first.first * 4096 + 4096) (32 * 4096)
    c.in-Some.found (omega (arith, c.controls_from-first.ensures, c.loop-first.auto.first)) (omega (arith, c.loop-first-test.true)) c.loop-first.invariant
    (subst (λ (o : Option Code). IsFirstOfKind c.args.costs.now c.args.elements.now c.args.at.place c.args.at.mode (HasRank c.args.at.mode (c.loop-first.first * 4096) (c.loop-first.first * 4096 + 4096)) o) c.in-Some.is c.pick_control.ensures)

pub loop-first-preserved : goal.loop-first-preserved
loop-first-preserved c =
    λ other cheap (low, high).
    pick_behind c.args.costs.now c.args.elements.now c.args.at.place c.args.at.mode (controls_from c.args.at.mode * 4096) (c.loop-first.first * 4096) (c.loop-first.first * 4096 + 4096) None
    (omega (arith, c.controls_from-first.ensures, c.loop-first.auto.first)) c.loop-first.invariant
    (subst (λ (o : Option Code). IsFirstOfKind c.args.costs.now c.args.elements.now c.args.at.place c.args.at.mode (HasRank c.args.at.mode (c.loop-first.first * 4096) (c.loop-first.first * 4096 + 4096)) o) c.in-None.is c.pick_control.ensures)
    other cheap (low, omega arith)

pub returns : goal.returns
returns c = λ other cheap (low, high). c.loop-first.invariant other cheap (low, omega (arith, c.loop-first-test.false))
