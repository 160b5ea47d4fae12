-- The laws of readers, a file each, and the lemmas that choose among them.
pub mod Aztec
pub mod Row
use Rattle.std.proofs.Common.{ℕ, List, Result, Ok, Err}
use Rattle.zint_settings.specs.Looks.{IsLook, row_number}
use Rattle.zint_settings.specs.declared.look.Look.{Look}
use Rattle.zint_settings.specs.declared.look.Look.TheVariants as look
use Rattle.bar_base.specs.Steps.{never_refused}
use Rattle.zint_answers.specs.Steps.{MayAnswer}
use Rattle.zint_answers.specs.declared.fault.Fault.{Fault}
use Rattle.zint_answers.specs.declared.fault.Fault.TheVariants.{NoMemory, Unread, Unwritten, Refused}
use Rattle.zint_answers.specs.declared.refusal.Refusal.{Refusal}
use Rattle.bar_base.proofs.OneStep.{IsOne}
use Rattle.zint_read.specs.readers.{Drawn, HasNear, IsWithinLimit, IsWritten, ShowsNear, Tells, TellsWhole, reads}
use Rattle.zint_read.proofs.ReaderLaws.Aztec.{aztec_told, aztec_whole, reads_aztec_one}
use Rattle.zint_read.proofs.ReaderLaws.Row.{reads_row_one, row_told, row_whole}

-- Two answers to the same bytes are the same.
pub reads_one : (look : Look) (bytes : List ℕ) → IsOne (reads look bytes)
reads_one (look.Aztec frame) bytes = reads_aztec_one frame bytes
reads_one (look.Row symbology) bytes = reads_row_one (row_number symbology) bytes

-- Every answer to bytes is a report that says so.
abbrev pub AreTold : (look : Look) (bytes : List ℕ) (Told : List ℕ → Type 0) → Type 0
AreTold look bytes Told = (answer : Result (List ℕ) Refusal) → reads look bytes answer → never_refused Told answer

-- Every answer to bytes that have something near to show tells what was drawn.
pub read_told : (look : Look) (bytes : List ℕ) (drawn : Drawn look) → HasNear look bytes drawn → AreTold look bytes (Tells look drawn)
read_told (look.Aztec frame) bytes drawn has = aztec_told frame bytes drawn has
read_told (look.Row symbology) bytes drawn has = row_told (row_number symbology) bytes drawn has

-- What was drawn and is written is within the limit, and every answer to it tells what was drawn, with nothing corrected.
pub whole_told : (look : Look) (bytes : List ℕ) (drawn : Drawn look) → IsLook look → IsWritten look bytes drawn
    → IsWithinLimit look bytes × AreTold look bytes (TellsWhole look drawn)
whole_told (look.Aztec frame) bytes drawn valid written = aztec_whole frame bytes drawn valid written
whole_told (look.Row symbology) bytes drawn valid written = row_whole (row_number symbology) bytes drawn written

-- so of what shows something near
pub near_told : (look : Look) (bytes : List ℕ) (drawn : Drawn look) → IsLook look → ShowsNear look bytes drawn
    → IsWithinLimit look bytes × AreTold look bytes (Tells look drawn)
near_told look bytes drawn valid (within, has) = (within, read_told look bytes drawn has)

-- whatever was returned
pub told_answered : {X : Type 0} (view : X → List ℕ) (result : Result X Fault) (look : Look) (bytes : List ℕ) (Told : List ℕ → Type 0)
    → MayAnswer view result (reads look bytes) → AreTold look bytes Told → MayAnswer view result (never_refused Told)
told_answered view (Ok x) look bytes Told read told = told (Ok (view x)) read
told_answered view (Err NoMemory) look bytes Told read told = tt
told_answered view (Err Unread) look bytes Told read told = read
told_answered view (Err Unwritten) look bytes Told read told = read
told_answered view (Err (Refused refusal)) look bytes Told read told = told (Err refusal) read
