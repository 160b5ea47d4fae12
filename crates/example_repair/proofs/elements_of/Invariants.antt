use Rattle.std.proofs.Common.{◌≡◌, map, take}
use Rattle.example_repair.proofs.elements_of.Given as goal

abbrev pub invariant-loop-byte : goal.invariant-loop-byte
invariant-loop-byte l = map (λ element. element.number) l.elements.items ≡ take l.byte-index l.bytes
