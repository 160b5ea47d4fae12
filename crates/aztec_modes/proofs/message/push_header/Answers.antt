use Rattle.std.proofs.Common.{◌+◌}
use Rattle.aztec_modes.specs.Message.{header_bytes, identifier_bytes}
use Rattle.aztec_modes.proofs.Steps.{header_put}
use Rattle.aztec_modes.proofs.message.push_header.Goals as goal

pub returns : goal.returns
unfolding header_bytes
returns c =
    header_put c.args.elements.now c.push_identifier.new.elements c.push.new.self c.push-2.new.self (identifier_bytes c.args.append.now.id)
    (64 + c.args.append.now.index) (64 + c.args.append.now.count)
    c.in_ok-push_identifier.ensures c.in_ok-push.ensures.pushed c.in_ok-push-2.ensures.pushed
