use Rattle.std.proofs.Common.{length}
use Rattle.rs_decode.proofs.errors.+mend.Given as goal

abbrev pub decreases-mend : goal.decreases-mend
decreases-mend g l = length l.places.now
