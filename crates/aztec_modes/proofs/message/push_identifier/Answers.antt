use Rattle.std.proofs.lemmas.Bool.{iff_false}
use Rattle.aztec_modes.proofs.Steps.{identifier_put}
use Rattle.aztec_modes.proofs.message.push_identifier.Goals as goal

pub returns : goal.returns
returns c =
    identifier_put c.args.elements.now c.push.new.self c.push_bytes.new.elements c.push-2.new.self c.args.id.now
    (iff_false c.is_empty.ensures.empty c.if-is_empty.false) c.in_ok-push.ensures.pushed c.in_ok-push_bytes.ensures c.in_ok-push-2.ensures.pushed
