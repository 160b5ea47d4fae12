use Rattle.code128_best.proofs.TableLaws.{IsSweptTo}
use Rattle.code128_best.proofs.sweeps.sweep.Given as goal

abbrev pub invariant-loop-index : goal.invariant-loop-index
invariant-loop-index l = IsSweptTo l.initial.costs l.costs l.elements l.index l.changed

abbrev pub decreases-loop-index : goal.decreases-loop-index
decreases-loop-index l = l.index
