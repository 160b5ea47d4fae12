use Rattle.image_locate.proofs.Search.{NoneBelow}
use Rattle.image_locate.proofs.locating.locate.Given as goal

abbrev pub invariant-loop-y : goal.invariant-loop-y
invariant-loop-y l = NoneBelow l.picture (λ s. Unit {0}) (λ s. s.y) l.y
