use Rattle.std.proofs.Common.{refl, arith}
use Rattle.aztec_modes.specs.declared.mode.Mode.TheVariants.{Upper, Lower, Mixed, Punct, Digit}
use Rattle.aztec_best.specs.Bench.{mode_cost}
use Rattle.aztec_best.specs.Start.{start_of}
use Rattle.aztec_best.proofs.settle.before_rest.Goals as goal

pub overflow_add-result : goal.overflow_add-result
unfolding start_of mode_cost
overflow_add-result c = omega (arith, c.requires.few Upper, c.requires.small Upper)

pub overflow_add-result-2 : goal.overflow_add-result-2
unfolding start_of mode_cost
overflow_add-result-2 c = omega (arith, c.requires.few Lower, c.requires.small Lower)

pub overflow_add-result-3 : goal.overflow_add-result-3
unfolding start_of mode_cost
overflow_add-result-3 c = omega (arith, c.requires.few Mixed, c.requires.small Mixed)

pub overflow_add-result-4 : goal.overflow_add-result-4
unfolding start_of mode_cost
overflow_add-result-4 c = omega (arith, c.requires.few Punct, c.requires.small Punct)

pub overflow_add-result-5 : goal.overflow_add-result-5
unfolding start_of mode_cost
overflow_add-result-5 c = omega (arith, c.requires.few Digit, c.requires.small Digit)

pub returns-clause-value : goal.returns-clause-value
unfolding start_of mode_cost
returns-clause-value c Upper = refl
returns-clause-value c Lower = refl
returns-clause-value c Mixed = refl
returns-clause-value c Punct = refl
returns-clause-value c Digit = refl

pub returns-clause-small : goal.returns-clause-small
unfolding start_of mode_cost
returns-clause-small c Upper = omega (arith, c.requires.few Upper, c.requires.small Upper)
returns-clause-small c Lower = omega (arith, c.requires.few Lower, c.requires.small Lower)
returns-clause-small c Mixed = omega (arith, c.requires.few Mixed, c.requires.small Mixed)
returns-clause-small c Punct = omega (arith, c.requires.few Punct, c.requires.small Punct)
returns-clause-small c Digit = omega (arith, c.requires.few Digit, c.requires.small Digit)
