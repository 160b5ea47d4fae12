use Rattle.std.proofs.Common.{arith}
use Rattle.image_locate.specs.Finding.{OfUnit, kind_and_turn}
use Rattle.image_locate.proofs.Search.{few_kinds, first_at, kind_follows, none_more, none_of_all, other_number, this_number}
use Rattle.image_locate.proofs.locating.first_turned.Goals as goal

pub loop-number-preserved : goal.loop-number-preserved
loop-number-preserved c =
    let p = c.args.picture.now in
    none_more p (OfUnit c.args.x c.args.y c.args.u) kind_and_turn c.loop-number.number c.loop-number.invariant
    (other_number p c.args.x c.args.y c.args.u c.loop-number.number c.stand_of-stand.result c.stand_of-stand.ensures.unit c.stand_of-stand.ensures.ranged c.stand_of-stand.ensures.number
    (c.shows_finder.ensures.none c.if-shows_finder.false))

pub returns : goal.returns
returns c =
    none_of_all c.args.picture.now (OfUnit c.args.x c.args.y c.args.u) kind_and_turn c.loop-number.number c.loop-number.invariant
    (λ stand is ranged shows. omega (arith, few_kinds stand ranged, c.loop-number-test.false))

pub returns-then-shows_finder : goal.returns-then-shows_finder
returns-then-shows_finder c =
    let p = c.args.picture.now in
    let s = c.stand_of-stand in
    first_at p (OfUnit c.args.x c.args.y c.args.u) kind_and_turn c.loop-number.number s.result (kind_follows c.args.x c.args.y c.args.u) c.loop-number.invariant
    (this_number p c.args.x c.args.y c.args.u c.loop-number.number s.result s.ensures.unit s.ensures.ranged s.ensures.number (c.shows_finder.ensures.shows c.if-shows_finder.true))
