use Rattle.std.proofs.Common.{◌++◌, arith}
use Rattle.linear_codes.specs.Itf14.{in_turn}
use Rattle.linear_codes.proofs.ItfLaws.{turn_more, turn_end}
use Rattle.linear_codes.proofs.itf14_symbol.push_in_turn.Goals as goal

pub loop-place-preserved : goal.loop-place-preserved
loop-place-preserved c =
    turn_more c.loop-place.elements.items c.push.new.self.items c.push-in-loop-place.new.self.items (c.args.elements.now.items ++ in_turn c.args.bars.now c.args.spaces.now)
    c.args.bars.now c.args.spaces.now c.loop-place.place (omega arith) (omega arith) c.loop-place.invariant c.in_ok-push.ensures.items c.in_ok-push-2.ensures.items

pub returns : goal.returns
returns c =
    turn_end c.loop-place.elements.items (c.args.elements.now.items ++ in_turn c.args.bars.now c.args.spaces.now) c.args.bars.now c.args.spaces.now c.loop-place.place (omega arith)
    c.loop-place.invariant
