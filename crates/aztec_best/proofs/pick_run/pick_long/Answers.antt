use Rattle.std.proofs.Common.{arith, drop}
use Rattle.aztec_best.proofs.RunPicks.{ahead_few, long_at_front, long_more, long_found, long_all}
use Rattle.aztec_best.proofs.pick_run.pick_long.Goals as goal

pub if_cheapest_run-requires-clause-front : goal.if_cheapest_run-requires-clause-front
if_cheapest_run-requires-clause-front c =
    long_at_front c.args.costs.now c.args.elements.now c.args.at.place c.args.at.mode c.args.front.now c.requires.ready.fronts c.requires.ready.valid c.requires.binary c.loop-more.more (omega (arith, c.loop-more-test.true, c.saturating_sub-more-end.ensures))

pub if_cheapest_run-requires-clause-few : goal.if_cheapest_run-requires-clause-few
if_cheapest_run-requires-clause-few c = (omega (arith, c.loop-more-test.true, c.saturating_sub-more-end.ensures, ahead_few c.args.front.now (drop c.args.at.place c.args.elements.now) c.requires.ready.fronts))

pub returns-in-Some : goal.returns-in-Some
returns-in-Some c =
    long_found c.args.costs.now c.args.elements.now c.args.at.place c.args.at.mode c.args.front.now c.requires.ready.fronts c.requires.ready.valid c.requires.binary c.loop-more.more c.in-Some.found (omega (arith, c.loop-more-test.true, c.saturating_sub-more-end.ensures, ahead_few c.args.front.now (drop c.args.at.place c.args.elements.now) c.requires.ready.fronts))
    c.loop-more.invariant c.in-Some.ensures.found

pub loop-more-preserved : goal.loop-more-preserved
loop-more-preserved c =
    long_more c.args.costs.now c.args.elements.now c.args.at.place c.args.at.mode c.args.front.now c.requires.ready.fronts c.requires.ready.valid c.requires.binary c.loop-more.more (omega (arith, c.loop-more-test.true, c.saturating_sub-more-end.ensures, ahead_few c.args.front.now (drop c.args.at.place c.args.elements.now) c.requires.ready.fronts))
    c.loop-more.invariant c.in-None.ensures.none

pub returns : goal.returns
returns c =
    long_all c.args.costs.now c.args.elements.now c.args.at.place c.args.at.mode c.args.front.now c.requires.ready.fronts c.requires.ready.valid c.requires.binary c.loop-more.more (omega (arith, c.loop-more-test.false, c.saturating_sub-more-end.ensures))
    c.loop-more.invariant
