use Rattle.std.proofs.Common.{◌≡◌, map, take}
use Rattle.linear_reader.specs.Data.{character_element}
use Rattle.linear_reader.proofs.spelling.characters_of.Given as goal

abbrev pub invariant-loop-value : goal.invariant-loop-value
invariant-loop-value l = l.elements ≡ map character_element (take l.value-index l.values)
