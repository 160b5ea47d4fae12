use Rattle.symbol_reader.specs.Sight.{Sight, earlier_of, seen_sight}
use Rattle.symbol_reader.proofs.Finders.{earlier_wrong, first_of, stands_from, wrong_from}
use Rattle.symbol_reader.proofs.finding.wrong_module.Goals as goal

pub returns-clause-stands : goal.returns-clause-stands
returns-clause-stands c =
    let seen = c.args.seen.now in
    let sight : Sight = seen_sight seen in
    rw c.earlier.ensures (stands_from c.args.size.full sight seen.width seen.rows (earlier_of c.finder-differing.result c.finder.result)
    (earlier_wrong c.args.size.full sight seen.width seen.rows c.finder-differing.result c.finder.result
    (first_of c.args.size.full sight seen.width seen.rows sight.picture c.finder-differing.result c.finder-differing.ensures.found c.finder-differing.ensures.differs)
    (first_of c.args.size.full sight seen.width seen.rows sight.dark c.finder.result c.finder.ensures.found c.finder.ensures.differs)))

pub returns-clause-wrong : goal.returns-clause-wrong
returns-clause-wrong c =
    let seen = c.args.seen.now in
    let sight : Sight = seen_sight seen in
    rw c.earlier.ensures (wrong_from c.args.size.full sight seen.width seen.rows (earlier_of c.finder-differing.result c.finder.result)
    (earlier_wrong c.args.size.full sight seen.width seen.rows c.finder-differing.result c.finder.result
    (first_of c.args.size.full sight seen.width seen.rows sight.picture c.finder-differing.result c.finder-differing.ensures.found c.finder-differing.ensures.differs)
    (first_of c.args.size.full sight seen.width seen.rows sight.dark c.finder.result c.finder.ensures.found c.finder.ensures.differs)))
