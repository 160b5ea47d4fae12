use Rattle.std.proofs.Common.{◌*◌, ◌+◌, subst, arith, Option}
use Rattle.aztec_modes.specs.declared.code.Code.{Code}
use Rattle.aztec_best.specs.Picks.{IsFirstOfKind, HasRank}
use Rattle.aztec_best.proofs.Picks.{pick_before, pick_behind}
use Rattle.aztec_best.proofs.pick_run.pick_run.Goals as goal

pub returns-in-Some : goal.returns-in-Some
returns-in-Some c =
    pick_before c.args.costs.now c.args.elements.now c.args.at.place c.args.at.mode (31 * 4096) (31 * 4096 + 2048) (32 * 4096) c.in-Some.found (omega arith)
    (subst (λ (o : Option Code). IsFirstOfKind c.args.costs.now c.args.elements.now c.args.at.place c.args.at.mode (HasRank c.args.at.mode (31 * 4096) (31 * 4096 + 2048)) o) c.in-Some.is c.pick_long.ensures)

pub returns-in-None : goal.returns-in-None
returns-in-None c =
    pick_behind c.args.costs.now c.args.elements.now c.args.at.place c.args.at.mode (31 * 4096) (31 * 4096 + 2048) (32 * 4096) c.pick_short.result (omega arith)
    (subst (λ (o : Option Code). IsFirstOfKind c.args.costs.now c.args.elements.now c.args.at.place c.args.at.mode (HasRank c.args.at.mode (31 * 4096) (31 * 4096 + 2048)) o) c.in-None.is c.pick_long.ensures)
    c.pick_short.ensures
