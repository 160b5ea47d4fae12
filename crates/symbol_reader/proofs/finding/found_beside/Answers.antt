use Rattle.symbol_reader.specs.Sight.{seen_sight}
use Rattle.symbol_reader.proofs.Finders.{no_finder_compact, no_full, no_full_side}
use Rattle.symbol_reader.proofs.finding.found_beside.Goals as goal

pub returns-in_default-size_of-clause-refused : goal.returns-in_default-size_of-clause-refused
returns-in_default-size_of-clause-refused c =
    no_finder_compact (seen_sight c.args.seen.now) c.args.compact c.in-Some.place.0 c.in-Some.place.1 c.requires.side c.requires.kind c.in-Some.ensures.wrong
    (no_full_side (seen_sight c.args.seen.now) c.in_default-size_of.ensures.none)

pub returns-in-Some-wrong_module-clause-refused : goal.returns-in-Some-wrong_module-clause-refused
returns-in-Some-wrong_module-clause-refused c =
    no_finder_compact (seen_sight c.args.seen.now) c.args.compact c.in-Some.place.0 c.in-Some.place.1 c.requires.side c.requires.kind c.in-Some.ensures.wrong
    (no_full (seen_sight c.args.seen.now) c.in-Some-size_of.full c.in-Some-wrong_module.field-0.0 c.in-Some-wrong_module.field-0.1 c.in-Some-size_of.ensures.kind c.in-Some-wrong_module.ensures.wrong)
