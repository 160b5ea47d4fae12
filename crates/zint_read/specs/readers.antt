-- Readers, a file each, and the definitions that choose among them.
pub mod Aztec
pub mod Row
use Rattle.std.specs.Prelude.{ℕ, ◌≤◌, List, length}
use Rattle.bar_base.specs.Input.{limit_for}
use Rattle.bar_base.specs.Limits.{most_bmp_bytes, most_bytes}
use Rattle.zint_settings.specs.Looks.{row_number}
use Rattle.zint_settings.specs.declared.look.Look.{Look}
use Rattle.zint_settings.specs.declared.look.Look.TheVariants as look
use Rattle.bar_base.specs.Steps.{Step}
use Rattle.zint_read.specs.readers.Aztec as aztec
use Rattle.zint_read.specs.readers.Row as row
use Rattle.zint_answers.specs.declared.refusal.Refusal.{Refusal}

-- how many bytes an image may have that begins with `BM`; every other has at most 65,536
abbrev pub picture_limit : Look → ℕ
picture_limit (look.Aztec frame) = most_bmp_bytes
picture_limit (look.Row symbology) = most_bytes

-- Bytes are within the limit that counts for them.
abbrev pub IsWithinLimit : Look → (bytes : List ℕ) → Type 0
IsWithinLimit look bytes = length bytes ≤ limit_for most_bytes (picture_limit look) bytes

-- the read report of what is looked for in an image
abbrev pub reads : Look → (bytes : List ℕ) → Step (List ℕ) Refusal
reads (look.Aztec frame) bytes answer = aztec.reads_aztec frame bytes answer
reads (look.Row symbology) bytes answer = row.reads_row (row_number symbology) bytes answer

-- what may have been drawn of what is looked for
abbrev pub Drawn : Look → Type 0
Drawn (look.Aztec frame) = aztec.DrawnMessage
Drawn (look.Row symbology) = row.DrawnRow

-- An image has something near to show that was drawn.
abbrev pub HasNear : (look : Look) → (bytes : List ℕ) → Drawn look → Type 0
HasNear (look.Aztec frame) bytes drawn = aztec.HasNearDrawn frame bytes drawn
HasNear (look.Row symbology) bytes drawn = row.ShowsRow (row_number symbology) bytes drawn

-- The same of bytes that are not too many.
abbrev pub ShowsNear : (look : Look) → (bytes : List ℕ) → Drawn look → Type 0
ShowsNear look bytes drawn = IsWithinLimit look bytes × HasNear look bytes drawn

-- A report tells what was drawn.
abbrev pub Tells : (look : Look) → Drawn look → (report : List ℕ) → Type 0
Tells (look.Aztec frame) drawn report = aztec.TellsMessage frame drawn report
Tells (look.Row symbology) drawn report = row.TellsRow (row_number symbology) drawn report

-- An image is what was drawn, as it is written.
abbrev pub IsWritten : (look : Look) → (bytes : List ℕ) → Drawn look → Type 0
IsWritten (look.Aztec frame) bytes drawn = aztec.IsWrittenOf frame bytes drawn
IsWritten (look.Row symbology) bytes drawn = row.IsLineOf (row_number symbology) bytes drawn

-- A report tells what was drawn, with nothing corrected.
abbrev pub TellsWhole : (look : Look) → Drawn look → (report : List ℕ) → Type 0
TellsWhole (look.Aztec frame) drawn report = aztec.TellsWhole frame drawn report
TellsWhole (look.Row symbology) drawn report = row.TellsRow (row_number symbology) drawn report
