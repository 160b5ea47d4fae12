use Rattle.std.proofs.Common.{◌≡◌, ◌∙◌, ◌-◌, ◌+◌, sym, arith, length, take, get_or, subst, ℕ, ◌++◌, ◌∷◌, []}
use Rattle.rs_decode.specs.Euclid.{IsEuclid}
use Rattle.rs_decode.proofs.EuclidInPlace.{step_short, step_reduced}
use Rattle.rs_decode.proofs.Slices.{taken_all}
use Rattle.rs_decode.proofs.remainders.step.Goals as goal

pub returns-then-eq-clause-kept : goal.returns-then-eq-clause-kept
returns-then-eq-clause-kept g c = λ series holds.
    let last : get_or c.args.low.now (c.args.sizes.low - 1) c.index-low-sizes.result ≡ c.zero.result =
    (g.met.F.Field.equal (get_or c.args.low.now (c.args.sizes.low - 1) c.index-low-sizes.result) c.zero.result).0 (sym c.if-eq.ensures) in
    rw c.zero-then-eq.ensures
    (step_short g.met.F.Field.laws series c.args.sizes.few c.args.high.now c.args.high_factor.now c.args.low.now c.args.low_factor.now c.args.sizes.high c.args.sizes.low
    c.index-low-sizes.result (omega (arith, c.requires)) (omega (arith, c.requires)) c.requires.low (omega (arith, c.requires))
    (last ∙ c.zero.ensures) holds)

pub returns-clause-kept : goal.returns-clause-kept
returns-clause-kept g c = λ series holds.
    let H : ℕ = c.args.sizes.high in
    let long : length (take c.args.sizes.high c.args.high.now) ≡ c.args.sizes.high = taken_all c.args.high.now c.args.sizes.high c.requires.high in
    let wide : length (take (c.args.sizes.few + 2 - c.args.sizes.low) c.args.high_factor.now) ≡ c.args.sizes.few + 2 - c.args.sizes.low =
    taken_all c.args.high_factor.now (c.args.sizes.few + 2 - c.args.sizes.low) (omega (arith, c.requires)) in
    let is : _ = subst (λ (n : ℕ). IsEuclid g.F.Field.nought g.F.Field.unit g.F.Field.plus g.F.Field.times series c.args.sizes.few (take (n - 1) c.reduce.new.high) c.reduce.new.high_factor
    (take c.args.sizes.low c.args.low.now) (take (c.args.sizes.few + 2 - c.args.sizes.high) c.args.low_factor.now ++ g.F.Field.nought ∷ [])) long (c.reduce.ensures series c.args.sizes.few holds) in
    rw c.zero-2.ensures
    (step_reduced g.met.F.Field.laws series c.args.sizes.few c.args.high.now c.args.high_factor.now c.args.low.now c.args.low_factor.now c.reduce.new.high c.reduce.new.high_factor
    c.args.sizes.high c.args.sizes.low (omega (arith, c.requires)) c.requires.most (omega (arith, c.requires)) c.requires.high (omega (arith, c.requires))
    (c.reduce.auto.high ∙ long) (c.reduce.auto.high_factor ∙ wide) is)
