use Rattle.zint_words.proofs.Outcomes.{broken_comes, settings_come}
use Rattle.zint_words.proofs.reading.settings_by.Goals as goal

pub returns-in_ok-broken_text-in-Some-clause-refused : goal.returns-in_ok-broken_text-in-Some-clause-refused
returns-in_ok-broken_text-in-Some-clause-refused c = broken_comes _ c.in-Some.rule _ c.in-Some.ensures c.in_ok-broken_text-in-Some.ensures

pub returns-in_ok-request_by-in-None-clause-settings : goal.returns-in_ok-request_by-in-None-clause-settings
returns-in_ok-request_by-in-None-clause-settings c = settings_come _ _ c.in-None.ensures c.in_ok-request_by-in-None.ensures
