use Rattle.std.proofs.Common.{arith}
use Rattle.aztec_best.proofs.NextCodes.{cheapest_there, rank_few}
use Rattle.aztec_best.proofs.Small.{filled_through}
use Rattle.aztec_best.proofs.pick.next_code.Goals as goal

pub pick-requires-clause-ready : goal.pick-requires-clause-ready
pick-requires-clause-ready c = record {
  filled = filled_through _ _ _ c.requires.filled;
  within = c.requires.within;
  fronts = c.front_at-front.ensures;
  valid = c.len.ensures.elements;
}

pub unreachable-requires : goal.unreachable-requires
unreachable-requires c =
    let (code, cheap) = cheapest_there c.args.costs.now c.args.elements.now c.requires.filled c.len.ensures.elements c.args.at.place c.args.at.mode c.requires.within in
    c.in-None.ensures code cheap (omega arith, rank_few cheap.front)
