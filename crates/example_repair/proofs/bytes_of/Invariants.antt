use Rattle.std.proofs.Common.{◌≡◌, map, take}
use Rattle.example_repair.proofs.bytes_of.Given as goal

abbrev pub invariant-loop-element : goal.invariant-loop-element
invariant-loop-element l = l.bytes.items ≡ map (λ element. element.number) (take l.element-index l.elements)
