use Rattle.std.proofs.Common.{◌+◌, ◌≤◌, ◌∙◌, length, arith}
use Rattle.aztec_best.proofs.DataLaws.{pair_within}
use Rattle.aztec_best.proofs.Small.{cost_small}
use Rattle.aztec_best.proofs.settle.pair_starts.Goals as goal

pub before_rest-requires-clause-small : goal.before_rest-requires-clause-small
before_rest-requires-clause-small c = λ mode.
    let ready = c.requires.ready in
    let inside : c.args.place + 2 ≤ length c.args.elements.now =
    pair_within c.args.front.now c.args.elements.now c.args.place ready.fronts c.requires.pair (omega (arith, ready.within)) in
    omega (
      arith,
      c.row_kept.ensures mode,
      cost_small c.args.costs.now c.args.elements.now (c.args.place + 1) (c.args.place + 2) mode ready.filled ready.valid (omega arith) inside,
    )
