use Rattle.std.proofs.Common.{◌+◌, ◌∙◌, ap, arith}
use Rattle.aztec_best.specs.Numbers.{single_length}
use Rattle.aztec_best.proofs.Small.{cost_small}
use Rattle.aztec_best.proofs.settle.single_starts.Goals as goal

pub before_rest-requires-clause-small : goal.before_rest-requires-clause-small
before_rest-requires-clause-small c = λ mode.
    omega (
      arith,
      c.row_kept.ensures mode,
      cost_small c.args.costs.now c.args.elements.now (c.args.place + 1) (c.args.place + 1) mode c.requires.filled c.requires.valid (omega arith) (omega (arith, c.requires.within)),
    )
