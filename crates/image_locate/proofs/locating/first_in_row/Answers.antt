use Rattle.std.proofs.Common.{arith}
use Rattle.image_locate.specs.Finding.{InRow}
use Rattle.image_locate.proofs.FinderRings.{room_of}
use Rattle.image_locate.proofs.Search.{column_follows, first_at, none_of_all}
use Rattle.image_locate.proofs.locating.first_in_row.Goals as goal

pub returns-in-Some : goal.returns-in-Some
returns-in-Some c =
    first_at c.args.picture.now (InRow c.args.y) (λ s. s.x) c.loop-x.x c.in-Some.stand (column_follows c.args.y) c.loop-x.invariant c.in-Some.ensures

pub returns : goal.returns
returns c =
    none_of_all c.args.picture.now (InRow c.args.y) (λ s. s.x) c.loop-x.x c.loop-x.invariant
    (λ stand is ranged shows. (let room = room_of c.args.picture.now stand ranged shows in omega (arith, room.right, c.width-x-end.ensures.width, c.loop-x-test.false)))
