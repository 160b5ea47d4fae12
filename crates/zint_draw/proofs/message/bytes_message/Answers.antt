use Rattle.std.proofs.Common.{◌∙◌, ap}
use Rattle.zint_draw.specs.Message.{message_with}
use Rattle.zint_draw.proofs.Messages.{bytes_drawable}
use Rattle.zint_draw.proofs.message.bytes_message.Goals as goal

pub returns-clause-can_be_drawn : goal.returns-clause-can_be_drawn
returns-clause-can_be_drawn c =
    bytes_drawable c.args.eci c.args.bytes.now c.message_with.result
    (c.message_with.ensures ∙ ap (message_with _ c.args.eci) c.in_ok-body.ensures) c.requires.known c.requires.some
