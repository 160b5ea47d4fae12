use Rattle.std.proofs.Common.{sym, ap, ◌∙◌, ◌&&◌, ◌+◌, arith, drop, Bool}
use Rattle.aztec_modes.specs.Reading.{all_ones}
use Rattle.aztec_modes.proofs.ReadingSteps.{ones_here, ones_past}
use Rattle.aztec_modes.proofs.reading.all_ones_from.Goals as goal

pub returns-then-not-bit_at : goal.returns-then-not-bit_at
returns-then-not-bit_at c = sym (c.loop-place.invariant ∙ ones_here c.args.bits.now c.loop-place.place c.bit_at.result c.bit_at.ensures
    ∙ ap (λ (b : Bool). b && all_ones (drop (c.loop-place.place + 1) c.args.bits.now)) c.if-not-bit_at.true)

pub loop-place-preserved : goal.loop-place-preserved
loop-place-preserved c = c.loop-place.invariant ∙ ones_here c.args.bits.now c.loop-place.place c.bit_at.result c.bit_at.ensures
    ∙ ap (λ (b : Bool). b && all_ones (drop (c.loop-place.place + 1) c.args.bits.now)) c.if-not-bit_at.false

pub returns : goal.returns
returns c = sym (c.loop-place.invariant ∙ ones_past c.args.bits.now c.loop-place.place (omega (arith, c.loop-place-test.false, c.loop-place.auto.place-end)))
