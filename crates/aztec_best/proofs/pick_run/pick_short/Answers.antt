use Rattle.std.proofs.Common.{arith, drop}
use Rattle.aztec_best.proofs.RunPicks.{ahead_few, short_at_front, short_more, short_found, short_all}
use Rattle.aztec_best.proofs.pick_run.pick_short.Goals as goal

pub if_cheapest_run-requires-clause-front : goal.if_cheapest_run-requires-clause-front
if_cheapest_run-requires-clause-front c =
    short_at_front c.args.costs.now c.args.elements.now c.args.at.place c.args.at.mode c.args.front.now c.requires.ready.fronts c.requires.ready.valid c.requires.binary c.loop-less.less (omega (arith, c.loop-less-test.true, c.min-less-end.ensures))

pub if_cheapest_run-requires-clause-few : goal.if_cheapest_run-requires-clause-few
if_cheapest_run-requires-clause-few c = (omega (arith, c.loop-less-test.true, c.min-less-end.ensures, ahead_few c.args.front.now (drop c.args.at.place c.args.elements.now) c.requires.ready.fronts))

pub returns-in-Some : goal.returns-in-Some
returns-in-Some c =
    short_found c.args.costs.now c.args.elements.now c.args.at.place c.args.at.mode c.args.front.now c.requires.ready.fronts c.requires.ready.valid c.requires.binary c.loop-less.less c.in-Some.found (omega (arith, c.loop-less-test.true, c.min-less-end.ensures, ahead_few c.args.front.now (drop c.args.at.place c.args.elements.now) c.requires.ready.fronts))
    c.loop-less.invariant c.in-Some.ensures.found

pub loop-less-preserved : goal.loop-less-preserved
loop-less-preserved c =
    short_more c.args.costs.now c.args.elements.now c.args.at.place c.args.at.mode c.args.front.now c.requires.ready.fronts c.requires.ready.valid c.requires.binary c.loop-less.less (omega (arith, c.loop-less-test.true, c.min-less-end.ensures, ahead_few c.args.front.now (drop c.args.at.place c.args.elements.now) c.requires.ready.fronts))
    c.loop-less.invariant c.in-None.ensures.none

pub returns : goal.returns
returns c =
    short_all c.args.costs.now c.args.elements.now c.args.at.place c.args.at.mode c.args.front.now c.requires.ready.fronts c.requires.ready.valid c.requires.binary c.loop-less.less (omega (arith, c.loop-less-test.false, c.min-less-end.ensures))
    c.loop-less.invariant
