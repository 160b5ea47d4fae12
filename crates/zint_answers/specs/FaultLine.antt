-- The line of a fault.
use Rattle.std.specs.Prelude.{ℕ, List, [], ◌∷◌, ◌++◌, codes, decimal}
use Rattle.zint_answers.specs.Refusals.{refusal_detail, refusal_status}
use Rattle.zint_answers.specs.declared.fault.Fault.{Fault}
use Rattle.zint_answers.specs.declared.fault.Fault.TheVariants.{NoMemory, Unread, Unwritten, Refused}

-- the exit status of a fault
abbrev pub status_of : Fault → ℕ
status_of NoMemory = 11
status_of Unread = 10
status_of Unwritten = 12
status_of (Refused refusal) = refusal_status refusal

-- what a fault is about
abbrev pub detail_of : Fault → List ℕ
detail_of NoMemory = codes "memory"
detail_of Unread = codes "read"
detail_of Unwritten = codes "write"
detail_of (Refused refusal) = refusal_detail refusal

-- the word `error` and the status
unfoldable pub fault_front : (status : ℕ) → List ℕ
fault_front status = codes "error " ++ decimal status ++ codes ": "

-- a status and what it is about, as a line
abbrev pub fault_text : (status : ℕ) (detail : List ℕ) → List ℕ
fault_text status detail = fault_front status ++ detail ++ 10 ∷ []

-- the line of a fault
abbrev pub fault_line : Fault → List ℕ
fault_line fault = fault_text (status_of fault) (detail_of fault)
