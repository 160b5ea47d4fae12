use Rattle.std.proofs.Common.{◌≡◌, take}
use Rattle.aztec_modes.specs.Entry.{bytes_as_elements}
use Rattle.example_spelling.proofs.elements_of.Given as goal

abbrev pub invariant-loop-byte : goal.invariant-loop-byte
invariant-loop-byte l = l.elements ≡ bytes_as_elements (take l.byte-index l.bytes)
