use Rattle.std.proofs.Common.{◌-◌, ◌/◌, ◌%◌, ◌^◌, refl}
use Rattle.std.specs.Prelude.{◌==◌}
use Rattle.bar_base.proofs.NumberBits.{pushed_more, pushed_none}
use Rattle.bar_base.proofs.number_bits.push_bits.Goals as goal

pub loop-i-init : goal.loop-i-init
loop-i-init c = pushed_none c.args.width c.args.number c.args.bits.now

pub loop-i-preserved : goal.loop-i-preserved
loop-i-preserved c =
    pushed_more c.args.width c.args.number c.loop-i.i c.args.bits.now c.loop-i.bits c.push.new.self
    (c.args.number / 2 ^ (c.args.width - 1 - c.loop-i.i) % 2 == 1) c.loop-i-test.true c.loop-i.invariant refl c.in_ok-push.ensures.pushed
