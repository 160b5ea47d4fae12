use Rattle.image_locate.specs.Finding.{InRow}
use Rattle.image_locate.proofs.Search.{NoneBelow}
use Rattle.image_locate.proofs.locating.first_in_row.Given as goal

abbrev pub invariant-loop-x : goal.invariant-loop-x
invariant-loop-x l = NoneBelow l.picture (InRow l.y) (λ s. s.x) l.x
