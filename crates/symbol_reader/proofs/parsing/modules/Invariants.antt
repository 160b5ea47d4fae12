use Rattle.std.proofs.Common.{◌≡◌, take}
use Rattle.symbol_reader.specs.Scanning.{modules_in}
use Rattle.symbol_reader.proofs.parsing.modules.Given as goal

abbrev pub invariant-loop-byte : goal.invariant-loop-byte
invariant-loop-byte l = l.modules.items ≡ modules_in (take l.byte-index l.bytes)
