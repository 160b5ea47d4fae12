use Rattle.std.proofs.Common.{length}
use Rattle.rs_decode.proofs.errors.+solve.Given as goal

abbrev pub decreases-solve : goal.decreases-solve
decreases-solve g l = length l.places.now
