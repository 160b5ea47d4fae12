-- What a call leaves where it writes.
use Rattle.std.specs.Prelude.{◌⊎◌, ℕ, List, Option, Some, None}
use Rattle.std.specs.FinMap.{get}
use Rattle.std.specs.Option.{option_and_then}
use Rattle.std.specs.Io.KnownBytes.{Appends}
use Rattle.bar_base.specs.Faults.{Rose}
use Rattle.bar_base.specs.Files.{FilesState, HoldsFile, HoldsPart, SameFiles, files_in}
use Rattle.bar_base.specs.Outside.{AppendsPrefix}
use Rattle.zint_answers.specs.FaultLine.{fault_line}
use Rattle.zint_answers.specs.declared.fault.Fault.{Fault}

-- The text was written where it was to be: standard output grew by exactly it, and the files are as they were; or the file of the name
-- holds exactly it, and every other file is as it was.
abbrev pub HoldsText : (output : Option (List ℕ)) (text : List ℕ) (out out' : Option (List ℕ)) (files files' : Option FilesState) → Type 0
HoldsText None text out out' files files' = Appends out out' text × SameFiles files files'
HoldsText (Some name) text out out' files files' = HoldsFile name text files files'

-- A prefix of the text was written there, or in a file nothing.
abbrev pub HoldsTextPart : (output : Option (List ℕ)) (text : List ℕ) (out out' : Option (List ℕ)) (files files' : Option FilesState) → Type 0
HoldsTextPart None text out out' files files' = AppendsPrefix out out' text × SameFiles files files'
HoldsTextPart (Some name) text out out' files files' = HoldsPart name text files files'

-- A fault was counted where the text was to be written.
abbrev pub WriteFaulted : (output : Option (List ℕ)) (out_faulted files_faulted : Type 0) → Type 0
WriteFaulted None out_faulted files_faulted = out_faulted
WriteFaulted (Some name) out_faulted files_faulted = files_faulted

-- The line of a fault was written: the whole, or a prefix where another fault was counted.
abbrev pub WritesLine : (old new : Option (List ℕ)) (faults faults' : ℕ) → Fault → Type 0
WritesLine old new faults faults' fault =
    Appends old new (fault_line fault) ⊎ (Rose faults faults' × AppendsPrefix old new (fault_line fault))

-- the bytes of the file of a name, where the files are known and there is such a file
abbrev pub file_in : (name : List ℕ) → Option FilesState → Option (List ℕ)
file_in name state = option_and_then (λ files. get files name) (files_in state)
