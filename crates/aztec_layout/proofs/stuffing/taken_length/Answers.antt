use Rattle.std.proofs.Common.{sym, true, false, ◌∙◌}
use Rattle.aztec_layout.proofs.StuffingLemmas.{length-taken}
use Rattle.aztec_layout.proofs.stuffing.taken_length.Goals as goal

pub returns-then-is_alike-clause-taken : goal.returns-then-is_alike-clause-taken
returns-then-is_alike-clause-taken c = sym (length-taken c.args.width c.args.word true (sym c.if-is_alike.true ∙ c.is_alike.ensures))

pub returns-else-is_alike-clause-taken : goal.returns-else-is_alike-clause-taken
returns-else-is_alike-clause-taken c = sym (length-taken c.args.width c.args.word false (sym c.if-is_alike.false ∙ c.is_alike.ensures))
