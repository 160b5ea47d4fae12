use Rattle.aztec_modes.proofs.NumbersAhead.{number_starts, number_steps}
use Rattle.std.proofs.Common.{refl, ap, ◌+◌, ◌*◌, ℕ}
use Rattle.aztec_modes.proofs.ahead.number_from.Goals as goal

pub loop-i-init : goal.loop-i-init
loop-i-init c = number_starts c.args.bits.now c.args.at

pub loop-i-preserved : goal.loop-i-preserved
loop-i-preserved c =
    number_steps c.args.bits.now c.args.at c.loop-i.i c.loop-i.number (c.loop-i.number * 2 + c.from.result) c.bit_at.result c.loop-i.invariant c.bit_at.ensures
    (ap (λ (n : ℕ). c.loop-i.number * 2 + n) c.from.ensures)
