use Rattle.std.proofs.Common.{◌≡◌, take}
use Rattle.linear_reader.proofs.modules.row_of.Given as goal

abbrev pub invariant-loop-column : goal.invariant-loop-column
invariant-loop-column l = l.modules.items ≡ take l.column l.grid.modules
