use Rattle.zint_draw.proofs.ProperMessages.{continued_drawable}
use Rattle.zint_draw.proofs.segments.message_of.Goals as goal

pub returns-clause-can_be_drawn : goal.returns-clause-can_be_drawn
returns-clause-can_be_drawn c =
    continued_drawable c.data_kind.result c.args.bytes.now c.in_ok-plain.plain c.in_ok-message.message c.place_of.result c.in_ok-more.more
    c.in_ok-message.ensures c.requires.some c.in_ok-plain.ensures.given c.in_ok-plain.ensures.can_be_drawn.0 c.place_of.ensures.in_set
