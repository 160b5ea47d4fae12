use Rattle.std.proofs.Common.{◌≡◌, subst, IfOk, IfErr}
use Rattle.zint_words.specs.Outcome.{IsRefusedBy, Outcome, settings}
use Rattle.zint_settings.specs.Settings.{request_in}
use Rattle.zint_words.proofs.Outcomes.{unreadable_comes, values_decide}
use Rattle.zint_words.proofs.reading.settings_of.Goals as goal

pub returns-in-Ok-clause-settings : goal.returns-in-Ok-clause-settings
returns-in-Ok-clause-settings c =
    subst (λ (o : Outcome). IfOk c.settings_by.result (λ s. o ≡ settings (request_in s)))
    (values_decide _ _ c.in-Ok.ensures.given.0 c.in-Ok.ensures.given.1) c.settings_by.ensures.settings

pub returns-in-Ok-clause-refused : goal.returns-in-Ok-clause-refused
returns-in-Ok-clause-refused c =
    subst (λ (o : Outcome). IfErr c.settings_by.result (IsRefusedBy o))
    (values_decide _ _ c.in-Ok.ensures.given.0 c.in-Ok.ensures.given.1) c.settings_by.ensures.refused

pub returns-in-Err-clause-refused : goal.returns-in-Err-clause-refused
returns-in-Err-clause-refused c = unreadable_comes _ _ c.in-Err.ensures.refused
