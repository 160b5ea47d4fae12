use Rattle.std.proofs.Common.{drop, unwrap_or}
use Rattle.aztec_best.proofs.DataPicks.{candidate_moved, min_own, max_own, least_is, greatest_is, former_picked, latter_picked}
use Rattle.aztec_best.proofs.pick.pick_data.Goals as goal

pub if_cheapest-requires-clause-front : goal.if_cheapest-requires-clause-front
if_cheapest-requires-clause-front c =
    candidate_moved c.args.at.mode c.args.shift c.min.result _ (drop c.args.at.place c.args.elements.now) c.data_code-former.result c.requires.shift
    c.data_code-former.ensures (least_is c.args.elements.now c.args.at.place c.args.at.mode c.args.shift c.min.result c.own_number-own.result c.pair_number-pair.result c.unwrap_or-mode.result c.args.front.now c.own_number-own.ensures c.pair_number-pair.ensures c.unwrap_or-mode.ensures c.requires.ready.fronts c.min.ensures)
    (min_own (unwrap_or c.args.shift c.args.at.mode) (drop c.args.at.place c.args.elements.now))

pub if_cheapest-requires-in-None-clause-front : goal.if_cheapest-requires-in-None-clause-front
if_cheapest-requires-in-None-clause-front c =
    candidate_moved c.args.at.mode c.args.shift c.max.result _ (drop c.args.at.place c.args.elements.now) c.data_code-latter.result c.requires.shift
    c.data_code-latter.ensures (greatest_is c.args.elements.now c.args.at.place c.args.at.mode c.args.shift c.max.result c.own_number-own.result c.pair_number-pair.result c.unwrap_or-mode.result c.args.front.now c.own_number-own.ensures c.pair_number-pair.ensures c.unwrap_or-mode.ensures c.requires.ready.fronts c.max.ensures)
    (max_own (unwrap_or c.args.shift c.args.at.mode) (drop c.args.at.place c.args.elements.now))

pub returns-in-Some : goal.returns-in-Some
returns-in-Some c = former_picked c.args.costs.now c.args.elements.now c.args.at.place c.args.at.mode c.args.shift c.min.result c.max.result c.data_code-former.result c.data_code-latter.result
    (least_is c.args.elements.now c.args.at.place c.args.at.mode c.args.shift c.min.result c.own_number-own.result c.pair_number-pair.result c.unwrap_or-mode.result c.args.front.now c.own_number-own.ensures c.pair_number-pair.ensures c.unwrap_or-mode.ensures c.requires.ready.fronts c.min.ensures)
    (greatest_is c.args.elements.now c.args.at.place c.args.at.mode c.args.shift c.max.result c.own_number-own.result c.pair_number-pair.result c.unwrap_or-mode.result c.args.front.now c.own_number-own.ensures c.pair_number-pair.ensures c.unwrap_or-mode.ensures c.requires.ready.fronts c.max.ensures)
    c.data_code-former.ensures c.data_code-latter.ensures c.in-Some.found c.in-Some.ensures.found

pub returns-in-None : goal.returns-in-None
returns-in-None c =
    latter_picked c.args.costs.now c.args.elements.now c.args.at.place c.args.at.mode c.args.shift c.min.result c.max.result c.data_code-former.result c.data_code-latter.result
    (least_is c.args.elements.now c.args.at.place c.args.at.mode c.args.shift c.min.result c.own_number-own.result c.pair_number-pair.result c.unwrap_or-mode.result c.args.front.now c.own_number-own.ensures c.pair_number-pair.ensures c.unwrap_or-mode.ensures c.requires.ready.fronts c.min.ensures)
    (greatest_is c.args.elements.now c.args.at.place c.args.at.mode c.args.shift c.max.result c.own_number-own.result c.pair_number-pair.result c.unwrap_or-mode.result c.args.front.now c.own_number-own.ensures c.pair_number-pair.ensures c.unwrap_or-mode.ensures c.requires.ready.fronts c.max.ensures)
    c.data_code-former.ensures c.data_code-latter.ensures c.if_cheapest-in-None.result c.in-None.ensures.none
    c.if_cheapest-in-None.ensures.found c.if_cheapest-in-None.ensures.none
