use Rattle.std.proofs.Common.{◌≡◌, drop}
use Rattle.linear_reader.specs.Row.{from_dark}
use Rattle.linear_reader.proofs.modules.from_dark.Given as goal

abbrev pub invariant-loop-place : goal.invariant-loop-place
invariant-loop-place l = from_dark (drop l.place l.modules) ≡ from_dark l.modules
