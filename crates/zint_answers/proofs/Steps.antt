-- Where a row of steps ends.
use Rattle.std.proofs.Common.{Ok, inl, inr}
use Rattle.bar_base.specs.Steps.{Step, Then}
use Rattle.zint_answers.specs.Steps.{Refuses}
use Rattle.zint_answers.specs.declared.fault.Fault.{Fault}
use Rattle.zint_answers.specs.declared.fault.Fault.TheVariants.{NoMemory, Unread, Unwritten, Refused}
use Rattle.zint_answers.specs.declared.refusal.Refusal.{Refusal}

-- at its first step
pub refused_first : {A B : Type 0} (first : Step A Refusal) (second : A → Step B Refusal) (fault : Fault) → Refuses first fault → Refuses (Then first second) fault
refused_first first second NoMemory refused = tt
refused_first first second Unread refused = refused
refused_first first second Unwritten refused = refused
refused_first first second (Refused refusal) refused = inl refused

-- after its first step
pub refused_later : {A B : Type 0} (first : Step A Refusal) (second : A → Step B Refusal) (x : A) (fault : Fault) → first (Ok x) → Refuses (second x) fault → Refuses (Then first second) fault
refused_later first second x NoMemory value refused = tt
refused_later first second x Unread value refused = refused
refused_later first second x Unwritten value refused = refused
refused_later first second x (Refused refusal) value refused = inr (x, value, refused)

pub ruleset stepping = (refused_first, refused_later)
