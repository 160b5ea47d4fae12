use Rattle.std.proofs.Common.{ap, ◌∙◌, List, map, take_all, arith}
use Rattle.zint_words.specs.declared.options.OptionName.{OptionName}
use Rattle.zint_words.specs.CommandLine.{app_with, option_names, rule_for, zint}
use Rattle.zint_words.proofs.Building.{one_more}
use Rattle.zint_words.proofs.command.command.Goals as goal

pub loop-option-preserved : goal.loop-option-preserved
loop-option-preserved c = one_more _ _ option_names c.loop-option.option-index _ _ (omega arith) c.loop-option.invariant c.argument.ensures.rule
    (c.in_ok-command.ensures.shape c.argument.ensures.local)

pub returns : goal.returns
unfolding zint
returns c = c.loop-option.invariant ∙ ap (λ (xs : List OptionName). app_with (map rule_for xs)) (take_all c.loop-option.option-index option_names c.loop-option-test.false)
