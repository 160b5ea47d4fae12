use Rattle.std.proofs.Common.{[]}
use Rattle.aztec_best.specs.Bench.{kept_cost}
use Rattle.aztec_best.proofs.Drawing.{IsPathTo}
use Rattle.example_spelling.proofs.codes_of.Given as goal

abbrev pub invariant-loop-at : goal.invariant-loop-at
invariant-loop-at l = IsPathTo [] l.elements l.codes l.at.mode l.at.place

abbrev pub decreases-loop-at : goal.decreases-loop-at
decreases-loop-at l = kept_cost l.bench l.at.place l.at.mode
