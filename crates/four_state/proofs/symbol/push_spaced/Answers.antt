use Rattle.four_state.proofs.BarLaws.{spaced_joined}
use Rattle.four_state.proofs.symbol.push_spaced.Goals as goal

pub returns : goal.returns
returns c =
    spaced_joined c.args.modules.now.items c.push.new.self.items c.loop-bar.modules.items c.args.bars.now c.loop-bar.bar-index c.requires c.loop-bar-test.false c.in_ok-push.ensures.items
    c.loop-bar.invariant
