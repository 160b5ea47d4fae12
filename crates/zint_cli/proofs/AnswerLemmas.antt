-- From the content that was taken to the answer.
use Rattle.std.proofs.Common.{ℕ, List, Ok, inl, inr}
use Rattle.zint_answers.specs.Steps.{Refuses}
use Rattle.zint_answers.specs.declared.fault.Fault.{Fault}
use Rattle.zint_answers.specs.declared.fault.Fault.TheVariants.{NoMemory, Unread, Unwritten, Refused}
use Rattle.zint_settings.specs.Settings.{Task}
use Rattle.zint_cli.specs.Call.{answers, picture_limit, responds}
use Rattle.zint_cli.specs.Content.{Content, raw_of}
use Rattle.zint_cli.specs.inner.Stopped.{IsStopped, IsUntaken}

-- the text of the bytes that were taken is the answer
pub responds_taken : (task : Task) (content : Content) (raw text : List ℕ) → raw_of (picture_limit task) content (Ok raw) → answers task raw (Ok text)
    → responds task content (Ok text)
unfolding responds
responds_taken task content raw text taken answer = (raw, taken, answer)

-- why the content was not taken is why there is no answer
pub stopped_untaken : (task : Task) (content : Content) (faulted : Type 0) (f : Fault) → IsUntaken (picture_limit task) content faulted f
    → IsStopped (responds task content) content faulted f
unfolding responds
stopped_untaken task content faulted NoMemory untaken = tt
stopped_untaken task content faulted Unread untaken = untaken
stopped_untaken task content faulted Unwritten untaken = untaken
stopped_untaken task content faulted (Refused refusal) untaken = inl untaken

-- a refusal of the bytes that were taken is why there is none
pub stopped_taken : (task : Task) (content : Content) (faulted : Type 0) (raw : List ℕ) (f : Fault) → raw_of (picture_limit task) content (Ok raw)
    → Refuses (answers task raw) f → IsStopped (responds task content) content faulted f
unfolding responds
stopped_taken task content faulted raw NoMemory taken refused = tt
stopped_taken task content faulted raw Unread taken refused = absurd refused
stopped_taken task content faulted raw Unwritten taken refused = absurd refused
stopped_taken task content faulted raw (Refused refusal) taken refused = inr (raw, taken, refused)

pub ruleset answering = (responds_taken, stopped_untaken, stopped_taken)
