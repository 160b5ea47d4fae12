use Rattle.std.proofs.Common.{◌≡◌, map, take}
use Rattle.symbol_reader.proofs.correction.numbers.Given as goal

abbrev pub invariant-loop-element : goal.invariant-loop-element
invariant-loop-element g l = l.words ≡ map g.F.Field.value (take l.element-index l.elements)
