use Rattle.std.proofs.Common.{true, arith}
use Rattle.bar_base.specs.Bits.{number_after}
use Rattle.bar_base.specs.Stripes.{stripes}
use Rattle.bar_base.proofs.StripeLaws.{stripe_digits, stripe_digits_end, stripe_room, stripe_room_more}
use Rattle.bar_base.proofs.stripes.number_of_widths.Goals as goal

pub with_stripe-number-requires : goal.with_stripe-number-requires
with_stripe-number-requires c = stripe_room c.loop-width.number c.args.widths.now c.loop-width.width-index (omega arith) c.loop-width.invariant.bounded

pub loop-width-preserved : goal.loop-width-preserved
loop-width-preserved c = record {
  digits =
      stripe_digits c.loop-width.number c.with_stripe-number.result (number_after 0 (stripes true c.args.widths.now)) c.loop-width.dark c.args.widths.now c.loop-width.width-index (omega arith)
      c.loop-width.invariant.digits c.with_stripe-number.ensures.digits;
  bounded =
      stripe_room_more c.loop-width.number c.with_stripe-number.result c.args.widths.now c.loop-width.width-index (omega arith) c.loop-width.invariant.bounded
      c.with_stripe-number.ensures.bounded;
}

pub returns : goal.returns
returns c =
    stripe_digits_end c.loop-width.number (number_after 0 (stripes true c.args.widths.now)) c.loop-width.dark c.args.widths.now c.loop-width.width-index (omega arith) c.loop-width.invariant.digits
