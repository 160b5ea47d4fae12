use Rattle.std.proofs.Common.{◌*◌, subst, arith, Option, None}
use Rattle.aztec_modes.specs.declared.code.Code.{Code}
use Rattle.aztec_best.specs.Numbers.{controls_from}
use Rattle.aztec_best.specs.Picks.{IsFirstOfKind, HasRank}
use Rattle.aztec_best.proofs.ByteLaws.{tail_few}
use Rattle.aztec_best.proofs.Picks.{pick_before, pick_behind, pick_found}
use Rattle.aztec_best.proofs.pick.pick.Goals as goal

pub returns-in-Some : goal.returns-in-Some
returns-in-Some c =
    pick_before c.args.costs.now c.args.elements.now c.args.at.place c.args.at.mode 0 4096 (32 * 4096) c.in-Some.found (omega arith)
    (subst (λ (o : Option Code). IsFirstOfKind c.args.costs.now c.args.elements.now c.args.at.place c.args.at.mode (HasRank c.args.at.mode 0 4096) o) c.in-Some.is c.pick_zero.ensures)

pub returns-in-Some-pick_plain : goal.returns-in-Some-pick_plain
returns-in-Some-pick_plain c =
    pick_found c.args.costs.now c.args.elements.now c.args.at.place c.args.at.mode 0 4096 (controls_from c.args.at.mode * 4096) (32 * 4096) c.in-Some-pick_plain.found (omega arith) (omega (arith, (tail_few c.args.at.mode).1))
    (subst (λ (o : Option Code). IsFirstOfKind c.args.costs.now c.args.elements.now c.args.at.place c.args.at.mode (HasRank c.args.at.mode 0 4096) o) c.in-None.is c.pick_zero.ensures)
    (subst (λ (o : Option Code). IsFirstOfKind c.args.costs.now c.args.elements.now c.args.at.place c.args.at.mode (HasRank c.args.at.mode 4096 (controls_from c.args.at.mode * 4096)) o) c.in-Some-pick_plain.is c.pick_plain.ensures)

pub returns : goal.returns
returns c =
    pick_behind c.args.costs.now c.args.elements.now c.args.at.place c.args.at.mode 0 (controls_from c.args.at.mode * 4096) (32 * 4096) c.pick_controls.result (omega arith)
    (pick_behind c.args.costs.now c.args.elements.now c.args.at.place c.args.at.mode 0 4096 (controls_from c.args.at.mode * 4096) None (omega arith)
    (subst (λ (o : Option Code). IsFirstOfKind c.args.costs.now c.args.elements.now c.args.at.place c.args.at.mode (HasRank c.args.at.mode 0 4096) o) c.in-None.is c.pick_zero.ensures)
    (subst (λ (o : Option Code). IsFirstOfKind c.args.costs.now c.args.elements.now c.args.at.place c.args.at.mode (HasRank c.args.at.mode 4096 (controls_from c.args.at.mode * 4096)) o) c.in-None-pick_plain.is c.pick_plain.ensures))
    c.pick_controls.ensures
