use Rattle.std.proofs.Common.{◌≡◌, ◌++◌, take}
use Rattle.aztec_modes.specs.Entry.{bytes_as_elements}
use Rattle.aztec_modes.proofs.message.push_bytes.Given as goal

abbrev pub invariant-loop-byte : goal.invariant-loop-byte
invariant-loop-byte l = l.elements ≡ l.fn.elements ++ bytes_as_elements (take l.byte-index l.byte-items)
