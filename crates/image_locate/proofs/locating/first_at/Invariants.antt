use Rattle.image_locate.specs.Finding.{AtPixel}
use Rattle.image_locate.proofs.Search.{NoneBelow}
use Rattle.image_locate.proofs.locating.first_at.Given as goal

abbrev pub invariant-loop-u : goal.invariant-loop-u
invariant-loop-u l = NoneBelow l.picture (AtPixel l.x l.y) (λ s. s.u) l.u
