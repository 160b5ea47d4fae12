use Rattle.std.proofs.Common.{◌<◌, length, arith}
use Rattle.linear_reader.proofs.Searches.{right_more, wrong_here, right_to_end, right_all}
use Rattle.linear_reader.proofs.checking.first_wrong.Goals as goal

pub returns-then-at-wanted : goal.returns-then-at-wanted
returns-then-at-wanted c = right_to_end c.args.place c.args.given.now c.args.wanted.now c.loop-at.at _ c.if-at-wanted.true c.loop-at.invariant.rest

pub returns-then-check-wanted : goal.returns-then-check-wanted
returns-then-check-wanted c =
    let inside : c.loop-at.at < length c.args.wanted.now = omega (arith, c.if-at-wanted.false) in
    wrong_here c.args.place c.args.given.now c.args.wanted.now c.loop-at.at _ c.loop-at-test.true inside c.if-check-wanted.true c.loop-at.invariant.rest

pub loop-at-preserved : goal.loop-at-preserved
loop-at-preserved c =
    let inside : c.loop-at.at < length c.args.wanted.now = omega (arith, c.if-at-wanted.false) in
    record {
      within = omega arith;
      rest = right_more c.args.place c.args.given.now c.args.wanted.now c.loop-at.at _ c.loop-at-test.true inside c.if-check-wanted.false c.loop-at.invariant.rest;
    }

pub returns : goal.returns
returns c = right_all c.args.place c.args.given.now c.args.wanted.now c.loop-at.at _ c.loop-at-test.false c.loop-at.invariant.rest
