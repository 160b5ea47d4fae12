-- What a function answers to a step of the definitions, whose refusals are the command's.
use Rattle.std.specs.Prelude.{◌≡◌, Result, Ok, Err}
use Rattle.bar_base.specs.Steps.{Step}
use Rattle.zint_answers.specs.declared.refusal.Refusal.{Refusal}
use Rattle.zint_answers.specs.declared.fault.Fault.{Fault}
use Rattle.zint_answers.specs.declared.fault.Fault.TheVariants.{NoMemory, Unread, Unwritten, Refused}

-- The step of a definition that has faults of its own: its refusals are those that they are here.
abbrev pub answered : {A E : Type 0} → (fault_of : E → Fault) → Result A E → Step A Refusal
answered fault_of given (Ok value) = given ≡ Ok value
answered {A} {E} fault_of given (Err refusal) = (fault : E) × (given ≡ Err fault) × (fault_of fault ≡ Refused refusal)

-- The step of a relation to values and of one to faults: its refusals are those that the faults are here.
abbrev pub related : {A E : Type 0} → (fault_of : E → Fault) → (is_value : A → Type 0) → (is_fault : E → Type 0) → Step A Refusal
related fault_of is_value is_fault (Ok value) = is_value value
related {A} {E} fault_of is_value is_fault (Err refused) = (fault : E) × is_fault fault × (fault_of fault ≡ Refused refused)

-- A fault is a refusal of the step; want of memory may come anywhere, and a step neither reads nor writes.
abbrev pub Refuses : {A : Type 0} → Step A Refusal → Fault → Type 0
Refuses step NoMemory = Unit {0}
Refuses step Unread = ⊥
Refuses step Unwritten = ⊥
Refuses step (Refused refusal) = step (Err refusal)

-- What a function returned, seen by view, is an answer of the step, unless memory ran out.
abbrev pub MayAnswer : {X Y : Type 0} → (X → Y) → Result X Fault → Step Y Refusal → Type 0
MayAnswer view (Ok x) step = step (Ok (view x))
MayAnswer view (Err fault) step = Refuses step fault
