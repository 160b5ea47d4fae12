use Rattle.std.proofs.Common.{take}
use Rattle.symbol_reader.specs.Scanning.{IsScanned}
use Rattle.symbol_reader.proofs.scanning.scanned.Given as goal

abbrev pub invariant-loop-at : goal.invariant-loop-at
invariant-loop-at l = IsScanned (take l.at l.bytes) l.scan
