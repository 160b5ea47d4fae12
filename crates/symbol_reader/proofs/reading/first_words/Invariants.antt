use Rattle.std.proofs.Common.{◌≡◌, take}
use Rattle.symbol_reader.proofs.reading.first_words.Given as goal

abbrev pub invariant-loop-word : goal.invariant-loop-word
invariant-loop-word l = l.first ≡ take l.word-index (take l.count l.words)
