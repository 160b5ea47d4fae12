use Rattle.std.proofs.Common.{arith}
use Rattle.aztec_modes.specs.declared.mode.Mode.TheVariants.{Upper, Lower, Mixed, Punct, Digit}
use Rattle.aztec_best.specs.Start.{start_of}
use Rattle.aztec_best.proofs.settle.starts_at.Goals as goal

pub returns-clause-small : goal.returns-clause-small
unfolding start_of
returns-clause-small c Upper = omega (arith, c.min.ensures, c.data_starts-data.ensures.small Upper)
returns-clause-small c Lower = omega (arith, c.min-2.ensures, c.data_starts-data.ensures.small Lower)
returns-clause-small c Mixed = omega (arith, c.min-3.ensures, c.data_starts-data.ensures.small Mixed)
returns-clause-small c Punct = c.data_starts-data.ensures.small Punct
returns-clause-small c Digit = c.data_starts-data.ensures.small Digit
