use Rattle.std.proofs.Common.{◌≡◌, map, take}
use Rattle.symbol_reader.proofs.correction.elements.Given as goal

abbrev pub invariant-loop-word : goal.invariant-loop-word
invariant-loop-word g l = map g.F.Field.value l.elements.items ≡ take l.word-index l.words
