use Rattle.aztec_modes.proofs.NumbersAhead.{narrow}
use Rattle.aztec_modes.proofs.ahead.number_at.Goals as goal

pub returns-clause-narrow : goal.returns-clause-narrow
returns-clause-narrow c = narrow c.args.count c.number_from.result c.number_from.ensures.below
