use Rattle.std.proofs.Common.{map}
use Rattle.zint_words.specs.CommandLine.{option_names}
use Rattle.zint_words.specs.GivenValues.{values_of}
use Rattle.zint_words.specs.Rules.{all_rules, breaks, first_broken}
use Rattle.zint_words.specs.declared.rules.Rule.TheVariants.{Value, Excluded}
use Rattle.zint_words.specs.declared.rules.TheConstants.{NEEDS, PAIRS}
use Rattle.zint_words.proofs.Finding.{find_in_four}
use Rattle.zint_words.proofs.rules.first_broken.Goals as goal

pub returns : goal.returns
unfolding first_broken all_rules
returns c =
    let all = find_in_four (breaks (values_of c.args.given.now)) (map Value option_names) PAIRS.now (map Excluded option_names) NEEDS.now in
    cc
