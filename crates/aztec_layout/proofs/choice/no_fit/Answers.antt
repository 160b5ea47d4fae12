use Rattle.aztec_layout.proofs.FittingLemmas.{takes_at}
use Rattle.aztec_layout.proofs.choice.no_fit.Goals as goal

pub returns-clause-takes : goal.returns-clause-takes
returns-clause-takes c = takes_at c.args.bits.now _ c.width.result c.count.result c.width.ensures c.count.ensures
