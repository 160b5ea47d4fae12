use Rattle.std.proofs.Common.{◌≡◌, ◌++◌, drop}
use Rattle.linear_codes.specs.Itf14.{in_turn}
use Rattle.linear_codes.proofs.itf14_symbol.push_in_turn.Given as goal

abbrev pub invariant-loop-place : goal.invariant-loop-place
invariant-loop-place l = l.elements.items ++ in_turn (drop l.place l.bars) (drop l.place l.spaces) ≡ l.initial.elements.items ++ in_turn l.bars l.spaces
