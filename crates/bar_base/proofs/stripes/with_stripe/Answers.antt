use Rattle.std.proofs.Common.{ℕ, ◌+◌, ◌*◌, ap, ◌∙◌, arith}
use Rattle.bar_base.proofs.StripeLaws.{digit_none, digit_more, bit_small, room_more, room_whole}
use Rattle.bar_base.proofs.stripes.with_stripe.Goals as goal

pub loop-init : goal.loop-init
loop-init c = record { digits = digit_none c.args.number c.args.dark; bounded = omega arith }

pub overflow_mul-longer : goal.overflow_mul-longer
overflow_mul-longer c =
    let more = room_more c.args.number c.loop.longer c.loop.counter c.args.width c.loop-test.true c.loop.invariant.bounded in
    let whole = room_whole c.args.number (c.loop.counter + 1) c.args.width 65536 (omega arith) c.requires in
    omega arith

pub overflow_add-longer : goal.overflow_add-longer
overflow_add-longer c =
    let more = room_more c.args.number c.loop.longer c.loop.counter c.args.width c.loop-test.true c.loop.invariant.bounded in
    let whole = room_whole c.args.number (c.loop.counter + 1) c.args.width 65536 (omega arith) c.requires in
    omega (arith, bit_small c.args.dark, c.from.ensures)

pub loop-preserved : goal.loop-preserved
loop-preserved c =
    let more = room_more c.args.number c.loop.longer c.loop.counter c.args.width c.loop-test.true c.loop.invariant.bounded in
    record {
      digits = ap (λ (n : ℕ). c.loop.longer * 2 + n) c.from.ensures ∙ digit_more c.args.number c.loop.longer c.loop.counter c.args.dark c.loop.invariant.digits;
      bounded = omega (arith, bit_small c.args.dark, c.from.ensures);
    }
