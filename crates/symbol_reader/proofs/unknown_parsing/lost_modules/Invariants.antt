use Rattle.std.proofs.Common.{◌≡◌, take}
use Rattle.symbol_reader.specs.UnknownLines.{lost_modules}
use Rattle.symbol_reader.proofs.unknown_parsing.lost_modules.Given as goal

abbrev pub invariant-loop-byte : goal.invariant-loop-byte
invariant-loop-byte l = l.modules.items ≡ lost_modules (take l.byte-index l.bytes)
