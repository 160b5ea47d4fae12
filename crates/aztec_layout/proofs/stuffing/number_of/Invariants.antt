use Rattle.aztec_layout.proofs.BitLemmas.{IsNumberOf}
use Rattle.aztec_layout.proofs.stuffing.number_of.Given as goal

abbrev pub invariant-loop-bit : goal.invariant-loop-bit
invariant-loop-bit l = IsNumberOf l.bits l.bit-index l.number
