use Rattle.std.proofs.Common.{◌≡◌, take}
use Rattle.symbol_reader.specs.UnknownLines.{light_text}
use Rattle.symbol_reader.proofs.unknown_parsing.light_text.Given as goal

abbrev pub invariant-loop-byte : goal.invariant-loop-byte
invariant-loop-byte l = l.text.items ≡ light_text (take l.byte-index l.bytes)
