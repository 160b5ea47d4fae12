use Rattle.std.proofs.Common.{arith}
use Rattle.aztec_modes.specs.declared.mode.Mode.TheVariants.{Upper, Lower, Mixed}
use Rattle.aztec_best.specs.Bench.{kept_cost, mode_cost}
use Rattle.aztec_best.proofs.lows.keys_at.Goals as goal

pub overflow_add-result : goal.overflow_add-result
unfolding kept_cost mode_cost
overflow_add-result c = omega (arith, c.requires.small Upper, c.requires.few)

pub overflow_add-result-2 : goal.overflow_add-result-2
unfolding kept_cost mode_cost
overflow_add-result-2 c = omega (arith, c.requires.small Lower, c.requires.few)

pub overflow_add-result-3 : goal.overflow_add-result-3
unfolding kept_cost mode_cost
overflow_add-result-3 c = omega (arith, c.requires.small Mixed, c.requires.few)
