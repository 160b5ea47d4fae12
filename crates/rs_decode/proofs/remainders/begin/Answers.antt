use Rattle.std.proofs.Common.{refl, arith, get_or}
use Rattle.rs_decode.proofs.EuclidInPlace.{begun_in}
use Rattle.rs_decode.proofs.remainders.begin.Goals as goal

pub returns : goal.returns
returns g c =
    rw (c.one.ensures, c.clear.ensures, c.copy_from_slice.ensures.after, c.clear-2.ensures, c.one-2.ensures)
    (begun_in g.met.F.Field.laws (λ t. get_or c.args.syndromes.now t g.F.Field.nought) c.args.few c.args.syndromes.now c.args.high.now c.args.high_factor.now c.args.low.now c.args.low_factor.now
    c.requires.syndromes c.requires.high c.requires.high_factor (omega (arith, c.requires)) (λ t below. refl))
