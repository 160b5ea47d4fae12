use Rattle.aztec_layout.proofs.Ranks.{NoneBelow}
use Rattle.aztec_layout.proofs.fitting.first_size.Given as goal

abbrev pub invariant-loop-rank : goal.invariant-loop-rank
invariant-loop-rank l = NoneBelow l.needs l.allowed l.rank
