use Rattle.std.proofs.Common.{arith}
use Rattle.rs_decode.proofs.Euclid.{turned_round}
use Rattle.rs_decode.proofs.EuclidInPlace.{low_ends}
use Rattle.rs_decode.proofs.remainders.pick.Goals as goal

pub returns-then-sizes-clause-locator : goal.returns-then-sizes-clause-locator
returns-then-sizes-clause-locator g c = λ series high low holds.
    low_ends g.met.F.Field.laws series c.args.sizes.few c.args.sizes.half high c.args.high_factor.now low c.args.low_factor.now c.args.sizes.high c.args.sizes.low
    (omega (arith, c.requires)) c.if-sizes.true (omega (arith, c.requires, c.if-sizes.true)) c.requires.most_high holds

pub returns-clause-locator : goal.returns-clause-locator
returns-clause-locator g c = λ series high low holds.
    let short : _ = c.requires.short c.if-sizes.false in
    rw c.copy_from_slice.ensures.after
    (low_ends g.met.F.Field.laws series c.args.sizes.few c.args.sizes.half low c.args.low_factor.now high c.args.high_factor.now c.args.sizes.low c.args.sizes.high
    (omega (arith, c.requires)) short c.if-sizes.false c.requires.most_low (turned_round g.met.F.Field.laws series c.args.sizes.few _ _ _ _ holds))
