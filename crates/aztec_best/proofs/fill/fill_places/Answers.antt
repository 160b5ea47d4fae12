use Rattle.std.proofs.Common.{◌≡◌, ◌-◌, ◌∙◌, ℕ, subst, arith}
use Rattle.aztec_best.specs.Bench.{IsFilledFrom}
use Rattle.aztec_best.proofs.Fronts.{bytes_ahead-most}
use Rattle.aztec_best.proofs.Filling.{filled_to_end, filled_to_step, filled_next, next_keys, next_short, next_long}
use Rattle.aztec_best.proofs.fill.fill_places.Goals as goal

pub loop-place-init : goal.loop-place-init
loop-place-init c = filled_to_end _ _ _ _ _ _ _ c.len-place.ensures.counted c.requires.room c.requires.short_room c.requires.long_room c.requires.fits

pub bytes_from-bytes-requires-clause-few : goal.bytes_from-bytes-requires-clause-few
bytes_from-bytes-requires-clause-few c =
    omega (
      arith,
      c.loop-place.invariant.counted,
      c.loop-place.invariant.within,
      c.requires.fits,
      bytes_ahead-most c.args.elements.now c.loop-place.place c.loop-place.invariant.within,
    )

pub runs_at-runs-requires-clause-keys : goal.runs_at-runs-requires-clause-keys
runs_at-runs-requires-clause-keys c =
    next_keys _ _ _ _ c.loop-place.invariant.room c.loop-place.invariant.filled c.loop-place-test.true c.loop-place.invariant.within c.len-place.ensures.elements c.bytes_from-bytes.ensures

pub runs_at-runs-requires-clause-long_room : goal.runs_at-runs-requires-clause-long_room
runs_at-runs-requires-clause-long_room c = λ some.
    omega (
      arith,
      c.loop-place.invariant.longs_room,
      c.bytes_from-bytes.ensures,
      bytes_ahead-most c.args.elements.now (c.loop-place.place - 1) (omega (arith, c.loop-place.invariant.within)),
    )

pub runs_at-runs-requires-clause-short : goal.runs_at-runs-requires-clause-short
runs_at-runs-requires-clause-short c = next_short _ _ _ _ _ _ _ _ _ c.loop-place.invariant c.loop-place-test.true c.bytes_from-bytes.ensures

pub runs_at-runs-requires-clause-long : goal.runs_at-runs-requires-clause-long
runs_at-runs-requires-clause-long c = next_long _ _ _ _ _ _ _ _ _ c.loop-place.invariant c.loop-place-test.true c.bytes_from-bytes.ensures

pub loop-place-preserved : goal.loop-place-preserved
loop-place-preserved c =
    filled_to_step _ _ _ _ _ _ _ _ _ c.loop-place.invariant.room (filled_next _ _ _ c.loop-place.invariant.filled c.loop-place-test.true)
    (omega (arith, c.loop-place.invariant.within, c.loop-place-test.true))
    (c.runs_at-runs.auto.shorts ∙ c.loop-place.invariant.shorts_room) (omega (arith, c.runs_at-runs.auto.longs, c.loop-place.invariant.longs_room))
    c.bytes_from-bytes.ensures c.runs_at-runs.ensures.short c.runs_at-runs.ensures.long c.costs_at.ensures.least c.costs_at.ensures.bytes

pub returns : goal.returns
returns c =
    subst (λ (p : ℕ). IsFilledFrom c.loop-place.costs c.args.elements.now p) (let none : c.loop-place.place ≡ 0 = omega (arith, c.loop-place-test.false) in none)
    c.loop-place.invariant.filled
