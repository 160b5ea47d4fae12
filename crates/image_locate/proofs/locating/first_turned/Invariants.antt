use Rattle.image_locate.specs.Finding.{OfUnit, kind_and_turn}
use Rattle.image_locate.proofs.Search.{NoneBelow}
use Rattle.image_locate.proofs.locating.first_turned.Given as goal

abbrev pub invariant-loop-number : goal.invariant-loop-number
invariant-loop-number l = NoneBelow l.picture (OfUnit l.x l.y l.u) kind_and_turn l.number
