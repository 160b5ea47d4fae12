use Rattle.std.proofs.Common.{◌≡◌, take}
use Rattle.std.specs.List.{flat_map}
use Rattle.input_escapes.specs.Escapes.{escaped_in_text}
use Rattle.input_escapes.proofs.escaping.escape_text.Given as goal

abbrev pub invariant-loop-byte : goal.invariant-loop-byte
invariant-loop-byte l = l.escaped.items ≡ flat_map escaped_in_text (take l.byte-index l.byte-items)
