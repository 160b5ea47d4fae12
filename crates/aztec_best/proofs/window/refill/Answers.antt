use Rattle.std.proofs.lemmas.List.{length-set}
use Rattle.std.proofs.Common.{◌≡◌, ◌+◌, ◌-◌, ℕ, subst, arith}
use Rattle.aztec_best.proofs.LowLaws.{IsRefilled, refilled_none, refilled_more, refilled_all}
use Rattle.aztec_best.proofs.window.refill.Goals as goal

pub loop-place-init : goal.loop-place-init
loop-place-init c = record { refilled = refilled_none _ _ _; room = c.requires.room }

pub loop-place-preserved : goal.loop-place-preserved
loop-place-preserved c = record {
  refilled = refilled_more _ _ _ _ _ _ _ c.loop-place.invariant.refilled c.loop-place.auto.place
      (omega (arith, c.loop-place.invariant.room, c.loop-place-test.true, c.loop-place.auto.place))
      c.keys_at.ensures.upper c.keys_at.ensures.lower c.keys_at.ensures.mixed
      c.lower_of-running.ensures.upper c.lower_of-running.ensures.lower c.lower_of-running.ensures.mixed;
  room = omega (arith, c.loop-place.invariant.room, length-set c.loop-place.stored (c.loop-place.place - c.args.low) c.lower_of-running.result);
}

pub returns : goal.returns
returns c =
    refilled_all _ _ _ _ _ (subst (λ (p : ℕ). IsRefilled c.args.costs.now c.loop-place.stored c.args.low p c.loop-place.running)
    (let same : c.loop-place.place ≡ c.args.top + 1 = omega (arith, c.loop-place-test.false, c.loop-place.auto.place-end, c.requires.keys.some) in same)
    c.loop-place.invariant.refilled)
