use Rattle.aztec_layout.specs.ModeMessage.{CanHold}
use Rattle.aztec_draw.proofs.Held.{held_fits}
use Rattle.aztec_draw.proofs.drawing.draw_bits.Goals as goal

pub draw-requires-clause-held : goal.draw-requires-clause-held
draw-requires-clause-held c =
    held_fits c.args.spelling c.in_ok-words.words c.args.allowed c.in_ok-size.size c.width.result c.len-held.result c.requires.some
    c.in_ok-size.ensures.smallest c.width.ensures c.in_ok-words.ensures.stuffed c.len-held.ensures.counted

pub invariant_of-result : goal.invariant_of-result
invariant_of-result c =
    let can_hold : CanHold c.in_ok-size.size c.len-held.result = held_fits c.args.spelling c.in_ok-words.words c.args.allowed c.in_ok-size.size c.width.result c.len-held.result c.requires.some
    c.in_ok-size.ensures.smallest c.width.ensures c.in_ok-words.ensures.stuffed c.len-held.ensures.counted in
    record { sized = c.in_ok-size.ensures.smallest.is_allowed.0; room = can_hold.few; can_hold = can_hold }
