-- Files in memory: what is reserved, and what each call leaves.
use Rattle.std.specs.Prelude.{ℕ, Bool, false, not, List, [], ◌++◌, ◌+◌, ◌||◌, drop, length, max, Option, None, Some, nat_lt, unwrap_or, if◌then◌else◌, refl}
use Rattle.std.specs.Option.{option_map, option_map_or}
use Rattle.std.specs.Ordering.{nat_cmp}
use Rattle.std.specs.Coded.{Coded, code_by, coded×, coded_ℕ, coded_list, coded_option}
use Rattle.std.specs.Cmp.Lexicographic.{slice_cmp}
use Rattle.std.specs.FinMap.{FinMap, get, insert, empty, contains_key, code}
use Rattle.bar_base.specs.Faults.{FaultCounts, one_more}
use Rattle.bar_base.specs.Files.{FileMap, Reading, FilesState, created}
use Rattle.bar_memory.specs.Memory.{Calls, next_fails, one_call_more}

-- the reserved names, and the greatest number of bytes of the file of each
abbrev pub RoomMap : Type 0
RoomMap = FinMap (slice_cmp nat_cmp) ℕ

-- files in memory: the files, the reserved names, the calls, and the counts of faults
pub record FilesValue : Type 0 where
  pub state : FilesState
  pub rooms : RoomMap
  pub calls : Calls
  pub faults : FaultCounts

-- no file, no reserved name, no call, no fault
abbrev pub no_files : (failing : List ℕ) → FilesValue
no_files failing = record {
  state = record { files = empty; reading = None; writing = None };
  rooms = empty;
  calls = record { failing = failing; made = 0 };
  faults = record { reading = 0; writing = 0 };
}

-- the name is reserved for a file of so many bytes, or of more where more was reserved before
abbrev pub reserved : (name : List ℕ) (room : ℕ) → FilesValue → FilesValue
reserved name room value = record value { rooms = insert value.rooms name (max room (unwrap_or (get value.rooms name) 0)) }

-- a call that fails counts a fault in opening and reading
abbrev pub reading_failed : FilesValue → FilesValue
reading_failed value = record value { calls = one_call_more value.calls; faults = record value.faults { reading = one_more value.faults.reading } }

-- a call that fails counts a fault in creating and writing
abbrev pub writing_failed : FilesValue → FilesValue
writing_failed value = record value { calls = one_call_more value.calls; faults = record value.faults { writing = one_more value.faults.writing } }

-- a call that doesn't fail leaves the files so
abbrev pub went_on : FilesState → FilesValue → FilesValue
went_on state value = record value { calls = one_call_more value.calls; state = state }

-- the file of this name is being read from its first byte, where there is such a file
abbrev pub opened : (name : List ℕ) → FilesState → FilesState
opened name state = option_map_or (λ bytes. record state { reading = Some (record { name = name; left = bytes }) }) (get state.files name) state

-- An opening fails where its call is to fail and where there is no such file.
abbrev pub open_fails : (name : List ℕ) → FilesValue → Bool
open_fails name value = next_fails value.calls || not (contains_key value.state.files name)

-- An opening that is not to fail succeeds where there is such a file; where there is none, no fault is counted.
abbrev pub after_open : (name : List ℕ) → FilesValue → FilesValue
after_open name value = if next_fails value.calls then reading_failed value else went_on (opened name value.state) value

-- so many bytes, or as many as are left, were read
abbrev pub read_on : (space : ℕ) → FilesState → FilesState
read_on space state = record state { reading = option_map {T = Reading} (λ reading. record reading { left = drop space reading.left }) state.reading }

-- a read fails where its call is to fail
abbrev pub after_files_read : (space : ℕ) → FilesValue → FilesValue
after_files_read space value = if next_fails value.calls then reading_failed value else went_on (read_on space value.state) value

-- A creation fails where its call is to fail and where the name is not reserved.
abbrev pub create_fails : (name : List ℕ) → FilesValue → Bool
create_fails name value = next_fails value.calls || not (contains_key value.rooms name)

-- a creation that doesn't fail makes the file, or empties it
abbrev pub after_create : (name : List ℕ) → FilesValue → FilesValue
after_create name value = if create_fails name value then writing_failed value else went_on (created name value.state) value

-- the bytes of a file, none where there is no such file
abbrev pub named_bytes : FilesState → (name : List ℕ) → List ℕ
named_bytes state name = unwrap_or (get state.files name) []

-- the piece is longer than the room that is left of the file that is being written
abbrev pub room_is_short : (piece : List ℕ) → RoomMap → FilesState → Bool
room_is_short piece rooms state = option_map_or (λ name. nat_lt (unwrap_or (get rooms name) 0) (length (named_bytes state name) + length piece)) state.writing false

-- A write fails where its call is to fail and where the piece is longer than the room that is left.
abbrev pub append_fails : (piece : List ℕ) → FilesValue → Bool
append_fails piece value = next_fails value.calls || room_is_short piece value.rooms value.state

-- the piece is behind the bytes of the file that is being written, where there is such a file
abbrev pub appended : (piece : List ℕ) → FilesState → FilesState
appended piece state = option_map_or (λ name. record state { files = insert state.files name (named_bytes state name ++ piece) }) state.writing state

-- a write that doesn't fail takes the whole piece
abbrev pub after_append : (piece : List ℕ) → FilesValue → FilesValue
after_append piece value = if append_fails piece value then writing_failed value else went_on (appended piece value.state) value

-- values with the same parts are the same
abbrev pub state_code : Coded FilesState
state_code =
    let reading = coded_option (code_by (List ℕ × List ℕ) (coded× (coded_list coded_ℕ) (coded_list coded_ℕ)) (λ (r : Reading). (r.name, r.left)) (λ p. record { name = p.0; left = p.1 }) (λ _. refl)) in
    code_by (FileMap × (Option Reading × Option (List ℕ))) (coded× (code (coded_list coded_ℕ) (coded_list coded_ℕ)) (coded× reading (coded_option (coded_list coded_ℕ))))
    (λ s. (s.files, (s.reading, s.writing))) (λ p. record { files = p.0; reading = p.1.0; writing = p.1.1 }) (λ _. refl)

-- the same for the files, the reserved names, the calls and the counts of faults together
abbrev pub files_value_code : Coded FilesValue
files_value_code =
    let calls = code_by (List ℕ × ℕ) (coded× (coded_list coded_ℕ) coded_ℕ) (λ (c : Calls). (c.failing, c.made)) (λ p. record { failing = p.0; made = p.1 }) (λ _. refl) in
    let faults = code_by (ℕ × ℕ) (coded× coded_ℕ coded_ℕ) (λ (f : FaultCounts). (f.reading, f.writing)) (λ p. record { reading = p.0; writing = p.1 }) (λ _. refl) in
    code_by (FilesState × (RoomMap × (Calls × FaultCounts))) (coded× state_code (coded× (code (coded_list coded_ℕ) coded_ℕ) (coded× calls faults)))
    (λ v. (v.state, (v.rooms, (v.calls, v.faults)))) (λ p. record { state = p.0; rooms = p.1.0; calls = p.1.1.0; faults = p.1.1.1 }) (λ _. refl)
