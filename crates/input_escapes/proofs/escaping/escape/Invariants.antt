use Rattle.std.proofs.Common.{◌≡◌, take}
use Rattle.std.specs.List.{flat_map}
use Rattle.input_escapes.specs.Escapes.{escaped}
use Rattle.input_escapes.proofs.escaping.escape.Given as goal

abbrev pub invariant-loop-byte : goal.invariant-loop-byte
invariant-loop-byte l = l.text.items ≡ flat_map escaped (take l.byte-index l.bytes)
