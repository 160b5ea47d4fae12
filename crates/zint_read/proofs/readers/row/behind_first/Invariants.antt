use Rattle.std.proofs.Common.{◌≡◌, drop, take}
use Rattle.zint_read.proofs.readers.row.behind_first.Given as goal

abbrev pub invariant-loop-element : goal.invariant-loop-element
invariant-loop-element l = l.rest ≡ take l.element-index (drop 1 l.body)
