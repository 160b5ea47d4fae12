-- What a step answers that reads an input first.
use Rattle.std.specs.Prelude.{◌≡◌, ◌⊎◌, ℕ, Err}
use Rattle.bar_base.specs.Steps.{Step}
use Rattle.zint_answers.specs.declared.fault.Fault.{Fault}
use Rattle.zint_answers.specs.declared.fault.Fault.TheVariants.{NoMemory, Unread, Unwritten, Refused}
use Rattle.zint_cli.specs.Content.{Content, missing, raw_of}
use Rattle.zint_answers.specs.declared.refusal.Refusal.{Refusal}

-- Why there is no answer: the step is refused; memory was wanting; or the input was not read, for its content is missing or a fault was
-- counted.
abbrev pub IsStopped : {A : Type 0} → Step A Refusal → Content → (faulted : Type 0) → Fault → Type 0
IsStopped step content faulted NoMemory = Unit {0}
IsStopped step content faulted Unread = (content ≡ missing) ⊎ faulted
IsStopped step content faulted Unwritten = ⊥
IsStopped step content faulted (Refused refusal) = step (Err refusal)

-- Why a content was not taken.
abbrev pub IsUntaken : (picture_limit : ℕ) → Content → (faulted : Type 0) → Fault → Type 0
IsUntaken picture_limit content faulted fault = IsStopped (raw_of picture_limit content) content faulted fault
