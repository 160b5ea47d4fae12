use Rattle.std.proofs.Common.{arith}
use Rattle.aztec_modes.specs.declared.mode.Mode.TheVariants.{Upper, Lower, Mixed, Punct, Digit}
use Rattle.aztec_best.specs.Start.{start_of}
use Rattle.aztec_best.proofs.settle.settled_bits.Goals as goal

pub overflow_add-upper : goal.overflow_add-upper
unfolding start_of
overflow_add-upper c = omega (arith, c.requires Upper)

pub overflow_add-lower : goal.overflow_add-lower
unfolding start_of
overflow_add-lower c = omega (arith, c.requires Lower)

pub overflow_add-mixed : goal.overflow_add-mixed
unfolding start_of
overflow_add-mixed c = omega (arith, c.requires Mixed)

pub overflow_add-punct : goal.overflow_add-punct
unfolding start_of
overflow_add-punct c = omega (arith, c.requires Punct)

pub overflow_add-digit : goal.overflow_add-digit
unfolding start_of
overflow_add-digit c = omega (arith, c.requires Digit)
