-- Files by their names, the one that is being read and the one that is being written.
use Rattle.std.specs.Prelude.{ℕ, ◌≡◌, ◌⊎◌, List, [], take, Option, None, Some, if◌then◌else◌}
use Rattle.std.specs.Option.{option_map, option_and_then, option_map_or}
use Rattle.std.specs.Ordering.{nat_cmp}
use Rattle.std.specs.Str.{bytes_eq}
use Rattle.std.specs.Cmp.Lexicographic.{slice_cmp}
use Rattle.std.specs.FinMap.{FinMap, get, insert, remove}

-- names and the bytes of their files; a name is the bytes of its text
abbrev pub FileMap : Type 0
FileMap = FinMap (slice_cmp nat_cmp) (List ℕ)

-- the name of the file that is being read, and the bytes that are left of it
pub record Reading : Type 0 where
  pub name : List ℕ
  pub left : List ℕ

-- the files, the one that is being read, and the name of the one that is being written
pub record FilesState : Type 0 where
  pub files : FileMap
  pub reading : Option Reading
  pub writing : Option (List ℕ)

-- the bytes left of the file that is being read, where the files are known and there is such a file
abbrev pub left_of : Option FilesState → Option (List ℕ)
left_of state = option_and_then (λ s. option_map (λ r. r.left) s.reading) state

-- the bytes of the file that is being written, where the files are known and there is such a file
abbrev pub held_of : Option FilesState → Option (List ℕ)
held_of state = option_and_then (λ s. option_and_then (λ name. get s.files name) s.writing) state

-- the files without the one that is being written
abbrev pub others_of : FilesState → FileMap
others_of state = option_map_or (remove state.files) state.writing state.files

-- What no read changes: all but the bytes that are left.
abbrev pub beside_left : FilesState → FilesState
beside_left state = record state { reading = option_map {T = Reading} (λ r. record r { left = [] }) state.reading }

-- What opening a file to read it does not change: all but what is being read.
abbrev pub beside_reading : FilesState → FilesState
beside_reading state = record state { reading = None }

-- What no write changes: all but the file that is being written.
abbrev pub beside_held : FilesState → FilesState
beside_held state = record state { files = others_of state }

-- What a refused creation does not change: all but the name that is being written.
abbrev pub beside_writing : FilesState → FilesState
beside_writing state = record state { writing = None }

-- the files are known, and have no file of this name
abbrev pub Lacks : (name : List ℕ) → Option FilesState → Type 0
Lacks name None = ⊥
Lacks name (Some s) = get s.files name ≡ None

-- Where the files are known, the file of this name is being read, and all of its bytes are left.
abbrev pub Opens : (name : List ℕ) → (old new : Option FilesState) → Type 0
Opens name None new = Unit {0}
Opens name (Some s) None = ⊥
Opens name (Some s) (Some t) = (bytes : List ℕ) × (get s.files name ≡ Some bytes) × (t.reading ≡ Some (record { name = name; left = bytes }))

-- what is being read once a file of this name was created: where it is that file, no byte of it is left
abbrev pub reading_after : (name : List ℕ) → Reading → Reading
reading_after name reading = if bytes_eq reading.name name then record reading { left = [] } else reading

-- the file of this name is empty, and is being written
abbrev pub created : (name : List ℕ) → FilesState → FilesState
created name state = record { files = insert state.files name []; reading = option_map (reading_after name) state.reading; writing = Some name }

-- the files, where they are known
abbrev pub files_in : Option FilesState → Option FileMap
files_in state = option_map (λ s. s.files) state

-- All files are as they were.
abbrev pub SameFiles : (old new : Option FilesState) → Type 0
SameFiles old new = files_in new ≡ files_in old

-- The file of this name holds exactly these bytes, and every other file is as it was.
abbrev pub HoldsFile : (name bytes : List ℕ) → (old new : Option FilesState) → Type 0
HoldsFile name bytes old new = files_in new ≡ option_map (λ files. insert files name bytes) (files_in old)

-- All files are as they were, or the file of this name holds a prefix of these bytes and every other file is as it was.
abbrev pub HoldsPart : (name bytes : List ℕ) → (old new : Option FilesState) → Type 0
HoldsPart name bytes old new = SameFiles old new ⊎ ((count : ℕ) × HoldsFile name (take count bytes) old new)
