-- A call, and the outside as it was before it and as it is after it: standard input, the files, standard output, standard error.
use Rattle.std.specs.Prelude.{ℕ, List, Option}
use Rattle.bar_base.specs.Files.{FilesState}
use Rattle.zint_words.specs.Outcome.{Outcome}

-- An input or an output: the object itself, the bytes that it has left or holds, where it tells them, and its count of faults.
pub record Stream (X : Type 0) : Type 0 where
  pub object : X
  pub bytes : Option (List ℕ)
  pub faults : ℕ

-- The files: what they hold, where they tell it, and their counts of faults in reading and in writing.
pub record Folder : Type 0 where
  pub state : Option FilesState
  pub reading_faults : ℕ
  pub writing_faults : ℕ

-- The outside at one moment.
pub record Outside (I O E : Type 0) : Type 0 where
  pub input : Stream I
  pub files : Folder
  pub out : Stream O
  pub err : Stream E

-- A call: what comes of its words, the outside before it and after it, and its exit status.
pub record Call (I O E : Type 0) : Type 0 where
  pub outcome : Outcome
  pub old : Outside I O E
  pub new : Outside I O E
  pub status : ℕ

-- The outside at one moment, by what each of its objects tells.
abbrev pub outside : {I F O E : Type 0} → (left : I → Option (List ℕ)) → (input_faults : I → ℕ)
    → (state : F → Option FilesState) → (reading_faults writing_faults : F → ℕ)
    → (out_held : O → Option (List ℕ)) → (out_faults : O → ℕ) → (err_held : E → Option (List ℕ)) → (err_faults : E → ℕ)
    → I → F → O → E → Outside I O E
outside left input_faults state reading_faults writing_faults out_held out_faults err_held err_faults input files out err = record {
  input = record { object = input; bytes = left input; faults = input_faults input };
  files = record {
    state = state files;
    reading_faults = reading_faults files;
    writing_faults = writing_faults files;
  };
  out = record { object = out; bytes = out_held out; faults = out_faults out };
  err = record { object = err; bytes = err_held err; faults = err_faults err };
}

-- A call, put together of its four parts.
abbrev pub call_of : {I O E : Type 0} → Outcome → (old new : Outside I O E) → (status : ℕ) → Call I O E
call_of outcome old new status = record { outcome = outcome; old = old; new = new; status = status }
