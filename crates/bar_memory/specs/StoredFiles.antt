-- Reserved files in a list, the places in them, and the files that they are.
use Rattle.std.specs.Prelude.{ℕ, ◌≡◌, ◌≢◌, ◌≤◌, ◌-◌, ◌==◌, Bool, true, max, List, [], ◌∷◌, Option, None, Some, drop, take, length, is_some, unwrap_or, if◌then◌else◌}
use Rattle.std.specs.Option.{option_map, option_and_then}
use Rattle.std.specs.List.{slice_get}
use Rattle.std.specs.FinMap.{get, insert, empty, contains_key}
use Rattle.bar_base.specs.Files.{FileMap, Reading, FilesState, created}
use Rattle.bar_memory.specs.MemoryFiles.{RoomMap, appended, opened, read_on}
use Rattle.bar_memory.specs.declared.place.Place.{Place}

-- a file in memory that is reserved: its name, whether it was created, its bytes, and the greatest number of them
pub record Stored : Type 0 where
  pub name : List ℕ
  pub made : Bool
  pub bytes : List ℕ
  pub room : ℕ

-- the files that were created
abbrev pub files_of : List Stored → FileMap
files_of [] = empty
files_of (file ∷ files) = if file.made then insert (files_of files) file.name file.bytes else files_of files

-- the rooms of the reserved files
abbrev pub rooms_of : List Stored → RoomMap
rooms_of [] = empty
rooms_of (file ∷ files) = insert (rooms_of files) file.name file.room

-- no file of the list has this name
abbrev pub AllOther : (name : List ℕ) → List Stored → Type 0
AllOther name [] = Unit {0}
AllOther name (file ∷ files) = (file.name ≢ name) × AllOther name files

-- no two files of the list have one name
abbrev pub IsDistinct : List Stored → Type 0
IsDistinct [] = Unit {0}
IsDistinct (file ∷ files) = AllOther file.name files × IsDistinct files

-- what is being read at a place
abbrev pub reading_at : List Stored → Place → Option Reading
reading_at files place = option_map (λ (file : Stored). record { name = file.name; left = take (place.end - place.at) (drop place.at file.bytes) }) (slice_get files place.file)

-- the files, the place that is being read, and the number of the file that is being written, as a caller sees them
abbrev pub stored_state : List Stored → Option Place → Option ℕ → FilesState
stored_state files reading writing = record {
  files = files_of files;
  reading = option_and_then (reading_at files) reading;
  writing = option_and_then (λ at. option_map (λ (file : Stored). file.name) (slice_get files at)) writing;
}

-- once this file was emptied, nothing is left at a place in it
abbrev pub moved_place : (file : ℕ) → Option Place → Option Place
moved_place file place = option_map (λ (p : Place). if p.file == file then record { file = file; at = 0; end = 0 } else p) place

-- this place lies in one of the files
abbrev pub IsReadAt : List Stored → Option Place → Type 0
IsReadAt files None = Unit {0}
IsReadAt files (Some place) = (file : Stored) × (slice_get files place.file ≡ Some file) × (place.at ≤ place.end) × (place.end ≤ length file.bytes)

-- this number is that of a file that was created
abbrev pub IsWrittenAt : List Stored → Option ℕ → Type 0
IsWrittenAt files None = Unit {0}
IsWrittenAt files (Some at) = (file : Stored) × (slice_get files at ≡ Some file) × (file.made ≡ true)

-- names are distinct, and the places are in files
pub record IsKept (files : List Stored) (reading : Option Place) (writing : Option ℕ) : Type 0 where
  pub distinct : IsDistinct files
  pub reading_inside : IsReadAt files reading
  pub writing_made : IsWrittenAt files writing

-- the file in this place has this name
pub record IsFileAt (files : List Stored) (name : List ℕ) (at : ℕ) : Type 0 where
  pub file : Stored
  pub here : slice_get files at ≡ Some file
  pub named : file.name ≡ name

-- A name was reserved: its room is there, and the files stay.
pub record Reserves (old new : List Stored) (name : List ℕ) (room : ℕ) : Type 0 where
  pub rooms : IsDistinct old → rooms_of new ≡ insert (rooms_of old) name (max room (unwrap_or (get (rooms_of old) name) 0))
  pub kept : (reading : Option Place) (writing : Option ℕ) → IsKept old reading writing → IsKept new reading writing
  pub state : (reading : Option Place) (writing : Option ℕ) → IsKept old reading writing → stored_state new reading writing ≡ stored_state old reading writing

-- The file of a reserved name, in this place, was made or emptied.
pub record Creates (old new : List Stored) (name : List ℕ) (at : ℕ) : Type 0 where
  pub reserved : IsDistinct old → contains_key (rooms_of old) name ≡ true
  pub rooms : rooms_of new ≡ rooms_of old
  pub kept : (reading : Option Place) (writing : Option ℕ) → IsKept old reading writing → IsKept new (moved_place at reading) (Some at)
  pub state : (reading : Option Place) (writing : Option ℕ) → IsKept old reading writing
      → stored_state new (moved_place at reading) (Some at) ≡ created name (stored_state old reading writing)

-- A piece was put behind the bytes of the file that is being written, the one in this place.
pub record Grows (old new : List Stored) (at : ℕ) (piece : List ℕ) : Type 0 where
  pub rooms : rooms_of new ≡ rooms_of old
  pub kept : (reading : Option Place) → IsKept old reading (Some at) → IsKept new reading (Some at)
  pub state : (reading : Option Place) → IsKept old reading (Some at) → stored_state new reading (Some at) ≡ appended piece (stored_state old reading (Some at))

-- The file of this name is read from its first byte, at this place.
pub record OpensAt (files : List Stored) (name : List ℕ) (place : Place) : Type 0 where
  pub there : IsDistinct files → is_some (get (files_of files) name) ≡ true
  pub kept : (reading : Option Place) (writing : Option ℕ) → IsKept files reading writing → IsKept files (Some place) writing
  pub state : (reading : Option Place) (writing : Option ℕ) → IsKept files reading writing
      → stored_state files (Some place) writing ≡ opened name (stored_state files reading writing)

-- So many bytes, or as many as are left, were read at a place.
pub record ReadsOn (files : List Stored) (old new : Place) (space : ℕ) : Type 0 where
  pub kept : (writing : Option ℕ) → IsKept files (Some old) writing → IsKept files (Some new) writing
  pub state : (writing : Option ℕ) → IsKept files (Some old) writing → stored_state files (Some new) writing ≡ read_on space (stored_state files (Some old) writing)
