use Rattle.std.proofs.Common.{◌≡◌, take}
use Rattle.test_aztec.proofs.spellings.elements_from.Given as goal

abbrev pub invariant-loop-item : goal.invariant-loop-item
invariant-loop-item l = l.elements ≡ take l.item-index l.items
