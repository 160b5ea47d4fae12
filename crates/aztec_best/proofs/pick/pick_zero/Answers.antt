use Rattle.std.proofs.Common.{◌∙◌, sym, arith, drop, Some, None}
use Rattle.aztec_best.proofs.Small.{valid_rest}
use Rattle.aztec_best.proofs.FlagPicks.{flag_moved, flag_fits, flag_pick, punct_none}
use Rattle.aztec_best.proofs.Picks.{pick_before, pick_behind}
use Rattle.aztec_best.proofs.pick.pick_zero.Goals as goal

pub if_cheapest-requires-clause-front : goal.if_cheapest-requires-clause-front
if_cheapest-requires-clause-front c =
    flag_fits c.args.at.mode c.args.front.now (drop c.args.at.place c.args.elements.now) c.flag_code.result c.flag_code.ensures c.requires.ready.fronts
    (valid_rest c.args.elements.now c.args.at.place c.requires.ready.valid)

pub returns-in-Some : goal.returns-in-Some
returns-in-Some c =
    pick_before c.args.costs.now c.args.elements.now c.args.at.place c.args.at.mode 0 7 4096 c.in-Some.found (omega arith)
    (flag_pick c.args.costs.now c.args.elements.now c.args.at.place c.args.at.mode c.requires.filled c.requires.ready.valid c.requires.ready.within (Some c.in-Some.found)
    (sym (flag_moved c.args.front.now (drop c.args.at.place c.args.elements.now) c.flag_code.result c.flag_code.ensures c.requires.ready.fronts) ∙ c.in-Some.ensures.found.0, c.in-Some.ensures.found.1) tt)

pub returns-then-is_punct : goal.returns-then-is_punct
returns-then-is_punct c =
    pick_behind c.args.costs.now c.args.elements.now c.args.at.place c.args.at.mode 0 7 4096 None (omega arith)
    (flag_pick c.args.costs.now c.args.elements.now c.args.at.place c.args.at.mode c.requires.filled c.requires.ready.valid c.requires.ready.within None
    tt (λ x is cheap. c.in-None.ensures.none x ((flag_moved c.args.front.now (drop c.args.at.place c.args.elements.now) c.flag_code.result c.flag_code.ensures c.requires.ready.fronts) ∙ is) cheap))
    (punct_none c.args.costs.now c.args.elements.now c.args.at.place c.args.at.mode c.if-is_punct.ensures.punct)

pub returns : goal.returns
returns c =
    pick_behind c.args.costs.now c.args.elements.now c.args.at.place c.args.at.mode 0 7 4096 c.pick_shift.result (omega arith)
    (flag_pick c.args.costs.now c.args.elements.now c.args.at.place c.args.at.mode c.requires.filled c.requires.ready.valid c.requires.ready.within None
    tt (λ x is cheap. c.in-None.ensures.none x ((flag_moved c.args.front.now (drop c.args.at.place c.args.elements.now) c.flag_code.result c.flag_code.ensures c.requires.ready.fronts) ∙ is) cheap))
    c.pick_shift.ensures
