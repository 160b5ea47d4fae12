use Rattle.std.proofs.Common.{drop}
use Rattle.aztec_layout.specs.Stuffing.{with_ones}
use Rattle.aztec_layout.proofs.BitLemmas.{IsNumberOf}
use Rattle.aztec_layout.proofs.stuffing.number_past.Given as goal

abbrev pub invariant-loop-i : goal.invariant-loop-i
invariant-loop-i l = IsNumberOf (drop l.at (with_ones l.width l.bits)) l.i l.number
