use Rattle.std.proofs.Common.{◌≡◌, take}
use Rattle.symbol_reader.proofs.darkening.heights_of.Given as goal

abbrev pub invariant-loop-y : goal.invariant-loop-y
invariant-loop-y l = l.heights.items ≡ take l.y l.grid.heights
