use Rattle.std.proofs.Common.{length}
use Rattle.linear_codes.proofs.itf14_symbol.+push_pairs.Given as goal

abbrev pub decreases-push_pairs : goal.decreases-push_pairs
decreases-push_pairs l = length l.digits.now
