use Rattle.std.proofs.Common.{◌∙◌, ◌*◌, sym, arith, get_or, subst, ℕ, take}
use Rattle.galois.specs.Locator.{IsLocator}
use Rattle.rs_decode.proofs.EuclidInPlace.{same_few}
use Rattle.rs_decode.proofs.remainders.find_locator.Goals as goal

pub loop-high-preserved : goal.loop-high-preserved
loop-high-preserved g c =
    let laws : _ = g.met.F.Field.laws in
    let series : ℕ → g.row.F.Denot = λ t. get_or c.args.syndromes.now t g.F.Field.nought in
    let i : _ = c.loop-high.invariant in
    let e : _ = c.turn-sizes.ensures in
    record {
      holds = same_few laws series c.loop-high.sizes.few (2 * c.args.half) _ _ _ _ _ _ i.few
          (e.kept series (same_few laws series (2 * c.args.half) c.loop-high.sizes.few _ _ _ _ _ _ (sym i.few) i.holds));
      few = e.few ∙ i.few;
      half = e.half ∙ i.half;
      most_high = omega (arith, e.high, e.few, i.most_high);
      most_low = omega (arith, e.low, e.few, i.most_low);
      least_high = omega (arith, e.high, e.low, e.one_less, i.half, (c.goes_on.ensures.0 c.loop-high-test.true).0);
      least_low = omega (arith, e.high, e.low, e.one_less, i.half, (c.goes_on.ensures.0 c.loop-high-test.true).1);
      both = omega (arith, e.high, e.low, e.one_less, i.half, (c.goes_on.ensures.0 c.loop-high-test.true).0, (c.goes_on.ensures.0 c.loop-high-test.true).1);
    }

pub returns-clause-locator : goal.returns-clause-locator
returns-clause-locator g c =
    let laws : _ = g.met.F.Field.laws in
    let series : ℕ → g.row.F.Denot = λ t. get_or c.args.syndromes.now t g.F.Field.nought in
    let i : _ = c.loop-high.invariant in
    subst (λ (n : ℕ). IsLocator g.F.Field.nought g.F.Field.plus g.F.Field.times series n (take c.pick.result c.pick.new.low_factor)) i.half
    (c.pick.ensures.locator series c.loop-high.high c.loop-high.low (same_few laws series (2 * c.args.half) c.loop-high.sizes.few _ _ _ _ _ _ (sym i.few) i.holds))
