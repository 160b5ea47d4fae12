use Rattle.std.proofs.Common.{arith}
use Rattle.code128_best.proofs.TableLaws.{settled_when}
use Rattle.code128_best.proofs.sweeps.sweep.Goals as goal

pub returns-clause-stable : goal.returns-clause-stable
returns-clause-stable c = settled_when c.args.costs.now c.loop-index.costs c.args.elements.now c.loop-index.index c.loop-index.changed c.loop-index.invariant (omega arith)
