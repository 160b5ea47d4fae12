use Rattle.clap.specs.Words.{found_of}
use Rattle.clap.proofs.WalkLemmas.{first_value-rows}
use Rattle.zint_words.specs.CommandLine.{values_in}
use Rattle.zint_words.specs.GivenValues.{values_of}
use Rattle.zint_words.proofs.given.Given.value.Goals as goal

pub returns : goal.returns
unfolding values_of values_in
returns c = let by_rows = first_value-rows (found_of c.args.self.now.matches) c.long.result.now in cc
