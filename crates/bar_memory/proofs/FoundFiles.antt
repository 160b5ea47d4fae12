-- What holds of a file that was found in a list of reserved files.
use Rattle.std.proofs.Common.{◌≡◌, ℕ, ◌+◌, ◌-◌, ◌<◌, ◌≤◌, min, max, Bool, true, false, cond, List, [], length, get_or, take, drop, Option, None, Some, sym, ap, subst, ◌∙◌, arith, length-take, length-drop, Result, Ok, Err, OnOk, OnErr}
use Rattle.std.proofs.Math.ListN.{set}
use Rattle.std.proofs.Math.Dec.{ltb}
use Rattle.std.proofs.lemmas.List.{take_all, drop-take, drop_min}
use Rattle.std.proofs.lemmas.Option.{slice_get-get_or, get_or_from_slice_get}
use Rattle.std.proofs.lemmas.List.{drop-drop}
use Rattle.std.specs.List.{slice_get}
use Rattle.std.specs.Option.{option_map, option_map_or, unwrap_or, is_some, IfSome}
use Rattle.std.specs.FinMap.{get}
use Rattle.bar_base.specs.Files.{Reading, FilesState}
use Rattle.bar_memory.specs.MemoryFiles.{room_is_short, named_bytes}
use Rattle.bar_memory.specs.StoredFiles.{Stored, IsDistinct, files_of, rooms_of, reading_at, stored_state, IsReadAt, IsKept, IsFileAt, Reserves, Creates, OpensAt, ReadsOn}
use Rattle.bar_memory.specs.declared.place.Place.{Place}
use Rattle.bar_memory.proofs.StoredFiles.{files_of-at, rooms_of-at}
use Rattle.bar_memory.proofs.Kept.{Reserves-wide, Creates-at}

-- what indexing read is what is there
pub stands : (files : List Stored) (at : ℕ) (file : Stored) → at < length files → file ≡ get_or files at file → slice_get files at ≡ Some file
stands files at file within is = slice_get-get_or files at file within ∙ ap Some (sym is)

module _ (files : List Stored) (name : List ℕ) (at : ℕ) (found : IsFileAt files name at) (file : Stored) (is : file ≡ get_or files at file) where
  same : file ≡ found.file
  same = is ∙ get_or_from_slice_get files at found.file file found.here

  pub found-here : slice_get files at ≡ Some file
  found-here = found.here ∙ ap Some (sym same)

  pub found-named : file.name ≡ name
  found-named = ap (λ (f : Stored). f.name) same ∙ found.named

  -- the bytes of the file, where it was created
  pub found-bytes : IsDistinct files → get (files_of files) name ≡ cond file.made (Some file.bytes) None
  found-bytes distinct = ap (get (files_of files)) (sym found-named) ∙ files_of-at files at file distinct found-here

  pub found-wide : (room : ℕ) → Reserves files (set files at (record file { room = max room file.room })) name room
  found-wide room = Reserves-wide files at file name room found-here found-named

  pub found-made : Creates files (set files at (record file { made = true; bytes = [] })) name at
  found-made = Creates-at files at file name found-here found-named

  pub found-opened : file.made ≡ true → OpensAt files name (record { file = at; at = 0; end = length file.bytes })
  found-opened made =
      let place : Place = record { file = at; at = 0; end = length file.bytes } in
      let view : Stored → Reading = λ f. record { name = f.name; left = take (length file.bytes - 0) (drop 0 f.bytes) } in
      let bytes : IsDistinct files → get (files_of files) name ≡ Some file.bytes = λ distinct. found-bytes distinct ∙ ap (λ b. cond b (Some file.bytes) None) made in
      record {
        there = λ distinct. ap is_some (bytes distinct);
        kept = λ reading writing kept. record {
          distinct = kept.distinct;
          reading_inside = (file, found-here, omega arith, omega arith);
          writing_made = kept.writing_made;
        };
        state = λ reading writing kept.
            let state = stored_state files reading writing in
            let next : List ℕ → FilesState = λ content. record state { reading = Some (record { name = name; left = content }) } in
            (λ k. record state {
              reading = (ap (option_map view) found-here
                  ∙ (λ j. Some (record { name = found-named j; left = take_all (length file.bytes - 0) file.bytes (omega arith) j }))) k;
            })
            ∙ sym (ap (λ o. option_map_or next o state) (bytes kept.distinct));
      }

-- the room that is left of the file that is being written
pub short-at : (files : List Stored) (at : ℕ) (file : Stored) (piece : List ℕ) (reading : Option Place) → slice_get files at ≡ Some file → IsKept files reading (Some at)
    → room_is_short piece (rooms_of files) (stored_state files reading (Some at)) ≡ ltb file.room (length file.bytes + length piece)
short-at files at file piece reading here kept =
    let state = stored_state files reading (Some at) in
    let made : file.made ≡ true = ap (λ (o : Option Stored). (unwrap_or o kept.writing_made.0).made) (sym here ∙ kept.writing_made.1) ∙ kept.writing_made.2 in
    let bytes_is : named_bytes state file.name ≡ file.bytes =
    ap (λ (o : Option (List ℕ)). unwrap_or o []) (files_of-at files at file kept.distinct here ∙ ap (λ b. cond b (Some file.bytes) None) made) in
    let room_is : unwrap_or (get (rooms_of files) file.name) 0 ≡ file.room = ap (λ (o : Option ℕ). unwrap_or o 0) (rooms_of-at files at file kept.distinct here) in
    let short : List ℕ → Bool = λ name. ltb (unwrap_or (get (rooms_of files) name) 0) (length (named_bytes state name) + length piece) in
    ap (λ (o : Option Stored). option_map_or short (option_map (λ (f : Stored). f.name) o) false) here
    ∙ (λ k. ltb (room_is k) (length (bytes_is k) + length piece))

-- what is left after more bytes were read
left_after : (space at end : ℕ) (bytes : List ℕ) → at ≤ end → end ≤ length bytes
    → take (end - (at + min space (end - at))) (drop (at + min space (end - at)) bytes) ≡ drop space (take (end - at) (drop at bytes))
left_after space at end bytes low high =
    let all = end - at in
    let count = min space all in
    let rest = drop at bytes in
    let whole : length (take all rest) ≡ all = length-take all rest ∙ omega (arith, length-drop at bytes) in
    let less : end - (at + count) ≡ all - count = omega arith in
    let sum : count + (all - count) ≡ all = omega arith in
    (λ k. take (less k) (sym (drop-drop count at bytes) k))
    ∙ sym (drop-take count (all - count) rest)
    ∙ ap (λ n. drop count (take n rest)) sum
    ∙ ap (λ n. drop (min space n) (take all rest)) (sym whole)
    ∙ drop_min space (take all rest)

pub Reads-at : (files : List Stored) (old : Place) (space count : ℕ) → IsReadAt files (Some old) → count ≡ min space (old.end - old.at)
    → ReadsOn files old (record old { at = old.at + count }) space
Reads-at files old space count (file, there, low, high) counted =
    let before : Stored → Reading = λ f. record { name = f.name; left = take (old.end - old.at) (drop old.at f.bytes) } in
    let after : Stored → Reading = λ f. record { name = f.name; left = take (old.end - (old.at + count)) (drop (old.at + count) f.bytes) } in
    let step : Reading → Reading = λ r. record r { left = drop space r.left } in
    let left = ap (λ n. take (old.end - (old.at + n)) (drop (old.at + n) file.bytes)) counted ∙ left_after space old.at old.end file.bytes low high in
    let reading : option_map after (slice_get files old.file) ≡ option_map step (option_map before (slice_get files old.file)) =
    ap (option_map after) there ∙ (λ j. Some (record { name = file.name; left = left j })) ∙ sym (ap (λ o. option_map step (option_map before o)) there) in
    record {
      kept = λ writing kept. record {
        distinct = kept.distinct;
        reading_inside = (file, there, omega arith, high);
        writing_made = kept.writing_made;
      };
      state = λ writing kept k. record (stored_state files (Some old) writing) { reading = reading k };
    }

-- how many bytes are left
pub length-left : (files : List Stored) (place : Place) (file : Stored) → IsReadAt files (Some place) → file ≡ get_or files place.file file
    → length (take (place.end - place.at) (drop place.at file.bytes)) ≡ place.end - place.at
length-left files place file (f, there, low, high) is =
    let bytes_is = ap (λ (g : Stored). g.bytes) (is ∙ get_or_from_slice_get files place.file f file there) in
    let fits : place.end ≤ length file.bytes = subst (λ (bytes : List ℕ). place.end ≤ length bytes) (sym bytes_is) high in
    length-take (place.end - place.at) (drop place.at file.bytes) ∙ omega (arith, length-drop place.at file.bytes)

-- what was read is the front of what was left
pub front-read : (files : List Stored) (place : Place) (count : ℕ) (into : List ℕ) (file : Stored) → IsReadAt files (Some place) → file ≡ get_or files place.file file
    → take count into ≡ take count (take (place.end - place.at) (drop place.at file.bytes))
    → IfSome (reading_at files place) (λ reading. take count into ≡ take count reading.left)
front-read files place count into file (f, there, low, high) is front =
    let view : Stored → Reading = λ g. record { name = g.name; left = take (place.end - place.at) (drop place.at g.bytes) } in
    let here : slice_get files place.file ≡ Some file = there ∙ ap Some (sym (is ∙ get_or_from_slice_get files place.file f file there)) in
    subst (λ (o : Option Stored). IfSome (option_map view o) (λ reading. take count into ≡ take count reading.left)) (sym here) front

-- the places are still kept after a name was reserved, or there was no memory for it
pub kept-reserved : {E : Type 0} (old new : List Stored) (name : List ℕ) (room : ℕ) (reading : Option Place) (writing : Option ℕ) (result : Result (Unit {0}) E)
    → OnOk result (Reserves old new name room) → OnErr result (new ≡ old) → IsKept old reading writing → IsKept new reading writing
kept-reserved old new name room reading writing (Ok done) reserves unchanged kept = reserves.kept reading writing kept
kept-reserved old new name room reading writing (Err error) reserves unchanged kept = subst (λ files. IsKept files reading writing) (sym unchanged) kept
