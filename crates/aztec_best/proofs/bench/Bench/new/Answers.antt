use Rattle.std.proofs.Common.{rules}
use Rattle.aztec_best.proofs.Small.{length-padded}
use Rattle.aztec_best.proofs.bench.Bench.new.Goals as goal

pub returns : goal.returns
returns c = record { reserved = length-padded c.in_ok-costs.costs.items (search rules) }
