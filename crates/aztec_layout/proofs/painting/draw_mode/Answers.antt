use Rattle.std.proofs.Common.{◌≡◌, length, false, arith}
use Rattle.std.proofs.lemmas.Option.{slice_get-get_or}
use Rattle.aztec_layout.proofs.Dots.{ModeDot, mode_done, mode_dot}
use Rattle.aztec_layout.proofs.PaintingLemmas.{paints_next}
use Rattle.aztec_layout.proofs.painting.draw_mode.Goals as goal

pub loop-place-preserved : goal.loop-place-preserved
loop-place-preserved c =
    paints_next c.args.grid.now c.loop-place.grid c.dot.new.grid (ModeDot c.args.full c.args.centre c.args.bits.now) c.loop-place.place c.loop-place.invariant
    (mode_dot c.args.full c.args.centre c.args.bits.now c.loop-place.place c.mode_place-x.result.0 c.mode_place-x.result.1 _ c.loop-place.grid c.dot.new.grid
    (slice_get-get_or c.args.bits.now c.loop-place.place false c.loop-place-test.true) c.mode_place-x.ensures.column c.mode_place-x.ensures.row c.dot.ensures)

pub returns : goal.returns
returns c =
    mode_done c.args.full c.args.centre c.args.bits.now c.loop-place.place c.args.grid.now c.loop-place.grid
    (let e : length c.args.bits.now ≡ c.loop-place.place = omega arith in e) c.loop-place.invariant
