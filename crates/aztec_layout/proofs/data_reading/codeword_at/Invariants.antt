use Rattle.aztec_layout.specs.DataReading.{ShowsNumber}
use Rattle.aztec_layout.proofs.data_reading.codeword_at.Given as goal

abbrev pub invariant-loop-i : goal.invariant-loop-i
invariant-loop-i l = ShowsNumber l.size l.grid l.first l.i l.word
