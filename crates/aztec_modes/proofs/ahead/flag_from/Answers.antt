use Rattle.aztec_modes.proofs.NumbersAhead.{power_fits}
use Rattle.std.proofs.Common.{arith, ◌≡◌, ℕ}
use Rattle.aztec_modes.proofs.ahead.flag_from.Goals as goal

pub digits_at-requires-clause-small : goal.digits_at-requires-clause-small
digits_at-requires-clause-small c = power_fits c.args.n c.requires.small c.if-n-eq7.false
