use Rattle.std.proofs.Common.{◌∙◌}
use Rattle.zint_words.specs.GivenValues.{values_of}
use Rattle.zint_words.proofs.Matching.{not_refused, refused, values_read}
use Rattle.zint_words.proofs.reading.given_by.Goals as goal

pub returns-in-Ok-clause-given : goal.returns-in-Ok-clause-given
unfolding values_of
returns-in-Ok-clause-given c = (
  not_refused _ _ c.in_ok-command.ensures c.in-Ok.ensures.kinds,
  values_read _ _ _ c.in_ok-command.ensures c.in-Ok.ensures.matches,
)

pub returns-clause-refused : goal.returns-clause-refused
returns-clause-refused c =
    refused _ _ c.in-Err.error c.in_ok-command.ensures c.in-Err.ensures.kinds (λ e. c.in_default.not-OutOfMemory (c.kind.ensures ∙ e))
