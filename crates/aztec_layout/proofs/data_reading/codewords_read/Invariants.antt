use Rattle.aztec_layout.proofs.ShownCodewords.{ShowsWords}
use Rattle.aztec_layout.proofs.data_reading.codewords_read.Given as goal

abbrev pub invariant-loop-k : goal.invariant-loop-k
invariant-loop-k l = ShowsWords l.size l.grid l.k l.words
