use Rattle.std.proofs.Common.{◌≡◌, take}
use Rattle.aztec_modes.specs.Entry.{bytes_as_elements}
use Rattle.zint_demo.proofs.text.elements_of_bytes.Given as goal

-- the elements of the bytes so far
abbrev pub invariant-loop-byte : goal.invariant-loop-byte
invariant-loop-byte l = l.elements ≡ bytes_as_elements (take l.byte-index l.bytes)
