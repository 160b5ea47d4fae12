use Rattle.symbol_reader.specs.Sight.{seen_sight}
use Rattle.symbol_reader.proofs.Finders.{no_finder_full}
use Rattle.symbol_reader.proofs.finding.found_full.Goals as goal

pub returns-in-Some-wrong_module-clause-refused : goal.returns-in-Some-wrong_module-clause-refused
returns-in-Some-wrong_module-clause-refused c =
    no_finder_full (seen_sight c.args.seen.now) c.in-Some.full c.in-Some-wrong_module.x c.in-Some-wrong_module.y c.in-Some.ensures.side c.in-Some.ensures.kind c.in-Some-wrong_module.ensures.wrong c.requires.none
