use Rattle.std.proofs.Common.{◌≡◌, ◌∙◌, ◌-◌, ℕ, suc, length, subst, arith}
use Rattle.std.proofs.lemmas.List.{length-set}
use Rattle.rs_encode.specs.Generator.{IsNext}
use Rattle.rs_encode.proofs.GeneratorLemmas.{AreNext, next_more, last_before, is_generator}
use Rattle.rs_encode.proofs.generator.write_generator.Goals as goal

pub loop-place-preserved : goal.loop-place-preserved
loop-place-preserved g c = record {
  room = length-set _ _ _ ∙ c.loop-place.invariant.room;
  small = c.next_exponent-before.ensures.below;
  last = last_before g.met.F.Field.laws c.loop-place.exponents c.loop-place.place c.next_exponent-before.result (omega (arith, c.loop-place-test.true, c.loop-place.invariant.room));
  are = next_more g.met.F.Field.laws (length c.args.exponents.now) c.loop-place.exponents c.loop-place.place c.loop-place.before c.next_exponent-before.result
      (omega (arith, c.loop-place-test.true, c.loop-place.invariant.room)) c.loop-place.invariant.are c.loop-place.invariant.last c.next_exponent-before.ensures.below
      (subst (λ (k : ℕ). IsNext g.F.Field.plus g.F.Field.times g.F.Field.power (length c.args.exponents.now) k c.loop-place.before c.next_exponent-before.result)
      (let e : length c.args.exponents.now - 1 - c.loop-place.place ≡ length c.args.exponents.now - suc c.loop-place.place = omega arith in e) c.next_exponent-before.ensures.next);
}

pub returns : goal.returns
returns g c =
    is_generator g.met.F.Field.laws c.loop-place.exponents
    (subst (λ (k : ℕ). AreNext g.met.F.Field.laws k c.loop-place.exponents k)
    (let e : length c.args.exponents.now ≡ length c.loop-place.exponents = omega (arith, c.loop-place.invariant.room) in e)
    (subst (λ (k : ℕ). AreNext g.met.F.Field.laws (length c.args.exponents.now) c.loop-place.exponents k)
    (let e : c.loop-place.place ≡ length c.args.exponents.now = omega arith in e) c.loop-place.invariant.are))
    (omega (arith, c.requires, c.loop-place.invariant.room))
