use Rattle.std.proofs.Common.{◌≡◌, take}
use Rattle.symbol_reader.specs.Sight.{dark_in_either}
use Rattle.symbol_reader.proofs.darkening.modules_of.Given as goal

abbrev pub invariant-loop-place : goal.invariant-loop-place
invariant-loop-place l = l.modules.items ≡ take l.place (dark_in_either l.grid.modules l.lost.modules)
