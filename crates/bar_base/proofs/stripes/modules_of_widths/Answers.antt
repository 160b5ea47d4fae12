use Rattle.std.proofs.Common.{true, arith}
use Rattle.bar_base.specs.Stripes.{stripes}
use Rattle.bar_base.proofs.StripeLaws.{stripes_more, stripes_end}
use Rattle.bar_base.proofs.stripes.modules_of_widths.Goals as goal

pub loop-width-preserved : goal.loop-width-preserved
loop-width-preserved c =
    stripes_more c.loop-width.modules.items c.push_stripe.new.modules.items (stripes true c.args.widths.now) c.loop-width.dark c.args.widths.now c.loop-width.width-index (omega arith)
    c.loop-width.invariant c.in_ok-push_stripe.ensures

pub returns : goal.returns
returns c = stripes_end c.loop-width.modules.items (stripes true c.args.widths.now) c.loop-width.dark c.args.widths.now c.loop-width.width-index (omega arith) c.loop-width.invariant
