use Rattle.std.proofs.Common.{◌*◌, ◌/◌, ◌<◌, ◌≤◌, ℕ, ap, arith}
use Rattle.aztec_layout.specs.DataReading.{HasSide}
use Rattle.aztec_layout.specs.Sizes.{codewords_of}
use Rattle.zint_demo.proofs.FirstBits.{first_bits_next, first_bits_none, side_kept, step_some, within}
use Rattle.zint_demo.proofs.Nearness.{near_next, near_none}
use Rattle.zint_demo.proofs.damage.damage.Goals as goal

pub loop-i-init : goal.loop-i-init
loop-i-init c = record {
  turned = first_bits_none c.args.size (c.codewords.result / c.args.count) c.args.grid.now;
  near = λ codewords shown. near_none c.args.size c.args.grid.now codewords shown;
}

pub loop-i-preserved : goal.loop-i-preserved
loop-i-preserved c =
    let step : ℕ = c.codewords.result / c.args.count in
    let some : 1 ≤ step = step_some c.codewords.result c.args.count c.requires.some (omega (arith, c.requires.few, c.codewords.ensures.counted)) in
    let inside : c.loop-i.i * step < codewords_of c.args.size =
    within (codewords_of c.args.size) c.args.count step c.loop-i.i (ap (λ (n : ℕ). n / c.args.count) c.codewords.ensures.counted) some (omega (arith, c.loop-i-test.true)) in
    let side : HasSide c.loop-i.grid c.args.size =
    side_kept c.args.size _ c.args.grid.now c.loop-i.grid c.requires.side c.loop-i.invariant.turned in
    record {
      turned = first_bits_next c.args.size step c.loop-i.i c.args.grid.now c.loop-i.grid c.turn_codeword.new.grid some c.loop-i.invariant.turned c.turn_codeword.ensures;
      near = λ codewords shown.
          near_next c.args.size (c.loop-i.i * step) c.loop-i.grid c.turn_codeword.new.grid side inside c.turn_codeword.ensures codewords c.loop-i.i
          (c.loop-i.invariant.near codewords shown);
    }
