use Rattle.std.proofs.Common.{◌≡◌, take}
use Rattle.symbol_reader.proofs.reading.numbers.Given as goal

abbrev pub invariant-loop-word : goal.invariant-loop-word
invariant-loop-word l = l.numbers ≡ take l.word-index l.words
