use Rattle.std.proofs.Common.{◌≡◌, map, take}
use Rattle.clap.specs.Words.{app_of}
use Rattle.zint_words.specs.CommandLine.{app_with, rule_for}
use Rattle.zint_words.proofs.command.command.Given as goal

abbrev pub invariant-loop-option : goal.invariant-loop-option
invariant-loop-option l = app_of l.command ≡ app_with (map rule_for (take l.option-index l.option-items))
