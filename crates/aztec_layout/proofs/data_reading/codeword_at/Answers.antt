use Rattle.std.proofs.Common.{arith, ◌<◌, ◌≤◌, Bool, true, false}
use Rattle.std.specs.Int.{from_bool}
use Rattle.aztec_layout.specs.Sizes.{codeword_width}
use Rattle.aztec_layout.proofs.ShownCodewords.{number_small, shows_more}
use Rattle.aztec_layout.proofs.data_reading.codeword_at.Goals as goal

pub overflow_mul-word : goal.overflow_mul-word
overflow_mul-word c =
    omega (arith, number_small c.args.size c.loop-i.i c.loop-i.word c.loop-i.invariant.below (let e : c.loop-i.i < codeword_width c.args.size = omega (arith, c.loop-i-test.true, c.width-i-end.ensures) in e))

pub overflow_add-word : goal.overflow_add-word
overflow_add-word c =
    omega (
      arith,
      number_small c.args.size c.loop-i.i c.loop-i.word c.loop-i.invariant.below (let e : c.loop-i.i < codeword_width c.args.size = omega (arith, c.loop-i-test.true, c.width-i-end.ensures) in e),
      bit_small c.dark.result,
      c.from.ensures,
    )
  where
    bit_small : (b : Bool) → from_bool b ≤ 1
    bit_small true = omega arith
    bit_small false = omega arith

pub loop-i-preserved : goal.loop-i-preserved
loop-i-preserved c =
    shows_more c.args.size c.args.grid.now c.args.first c.loop-i.i c.loop-i.word c.from.result c.place_near-x.result.0 c.place_near-x.result.1 c.dark.result c.loop-i.invariant
    c.place_near-x.ensures.only c.dark.ensures.module c.from.ensures
