use Rattle.std.proofs.Common.{arith}
use Rattle.image_locate.proofs.FinderRings.{room_of}
use Rattle.image_locate.proofs.Search.{first_of_all}
use Rattle.image_locate.proofs.locating.locate.Goals as goal

pub returns-in-Some-clause-first : goal.returns-in-Some-clause-first
returns-in-Some-clause-first c = first_of_all c.args.picture.now c.loop-y.y c.in-Some.stand c.loop-y.invariant c.in-Some.ensures

pub returns-clause-none : goal.returns-clause-none
returns-clause-none c = λ stand ranged shows.
    let room = room_of c.args.picture.now stand ranged shows in
    c.loop-y.invariant stand tt ranged shows (omega (arith, room.below, c.rows-y-end.ensures.rows, c.loop-y-test.false))
