-- What becomes of reserved files, and of the places in them, by one change.
use Rattle.std.proofs.Common.{◌≡◌, ◌≢◌, ℕ, zero, suc, ◌-◌, ◌≤◌, max, Bool, true, false, cond, List, [], ◌∷◌, ◌++◌, length, take, drop, Option, None, Some, refl, sym, ap, subst, ◌∙◌, arith, inl, inr, length-append, length-drop}
use Rattle.std.proofs.Math.ListN.{set}
use Rattle.std.proofs.lemmas.List.{take-append-le, drop-append-le}
use Rattle.std.proofs.lemmas.Bool.Decides.{eqb_tells}
use Rattle.std.specs.List.{slice_get}
use Rattle.std.specs.Option.{option_map, option_and_then, option_map_or, unwrap_or, is_some}
use Rattle.std.specs.Str.{bytes_eq}
use Rattle.std.specs.FinMap.{get, insert}
use Rattle.bar_base.specs.Files.{FilesState, Reading, reading_after}
use Rattle.bar_memory.specs.MemoryFiles.{appended, named_bytes}
use Rattle.bar_memory.specs.StoredFiles.{Stored, AllOther, IsDistinct, files_of, rooms_of, reading_at, stored_state, moved_place, IsReadAt, IsWrittenAt, IsKept, Reserves, Creates, Grows}
use Rattle.bar_memory.specs.declared.place.Place.{Place}
use Rattle.bar_base.proofs.NameMaps.{bytes_eq-same, bytes_eq-other}
use Rattle.bar_memory.proofs.StoredFiles.{AllOther-at, IsDistinct-set, IsDistinct-push, slice_get-set_same, slice_get-set_other, slice_get-front, files_of-at, files_of-set, files_of-set_same, files_of-push, rooms_of-at, rooms_of-missing, rooms_of-set, rooms_of-set_same, rooms_of-push}

-- two files of a list have two names
other_names : (files : List Stored) (i j : ℕ) (f g : Stored) → IsDistinct files → slice_get files i ≡ Some f → slice_get files j ≡ Some g → i ≢ j → f.name ≢ g.name
other_names [] i j f g distinct here there differ = absurd (cc)
other_names (first ∷ files) zero zero f g distinct here there differ = absurd (differ refl)
other_names (first ∷ files) zero (suc j) f g distinct here there differ =
    λ same. AllOther-at first.name files j g distinct.0 there (sym same ∙ ap (λ (o : Option Stored). (unwrap_or o f).name) (sym here))
other_names (first ∷ files) (suc i) zero f g distinct here there differ =
    λ same. AllOther-at first.name files i f distinct.0 here (same ∙ ap (λ (o : Option Stored). (unwrap_or o g).name) (sym there))
other_names (first ∷ files) (suc i) (suc j) f g distinct here there differ = other_names files i j f g distinct.1 here there (λ same. differ (ap suc same))

-- ---- one file of the list was replaced by one of the same name

module _ (files : List Stored) (at : ℕ) (file next : Stored) (here : slice_get files at ≡ Some file) (named : next.name ≡ file.name) where
  -- the place is still one
  place-set : (place : Place) → IsReadAt files (Some place) → (place.file ≡ at → place.end ≤ length next.bytes) → IsReadAt (set files at next) (Some place)
  place-set place (f, there, low, high) fits = elim (eqb_tells place.file at) [
    | inl same ↦ (next, ap (slice_get (set files at next)) same.1 ∙ slice_get-set_same files at file next here, low, fits same.1)
    | inr other ↦ (f, slice_get-set_other files at place.file next other.1 ∙ there, low, high)
  ]

  -- a place is still one, where the file got no shorter
  inside-set : (reading : Option Place) → length file.bytes ≤ length next.bytes → IsReadAt files reading → IsReadAt (set files at next) reading
  inside-set None longer inside = tt
  inside-set (Some place) longer inside = place-set place inside (λ same.
      let f = inside.0 in
      let is_file = ap (λ (o : Option Stored). (unwrap_or o f).bytes) (sym inside.1 ∙ ap (slice_get files) same ∙ here) in
      let high : place.end ≤ length file.bytes = subst (λ (bytes : List ℕ). place.end ≤ length bytes) is_file inside.3 in
      omega arith)

  -- what is being read stays, where the bytes that are left stay
  reading-set : (place : Place) → (place.file ≡ at → take (place.end - place.at) (drop place.at next.bytes) ≡ take (place.end - place.at) (drop place.at file.bytes))
      → reading_at (set files at next) place ≡ reading_at files place
  reading-set place same_left =
      let view : Stored → Reading = λ f. record { name = f.name; left = take (place.end - place.at) (drop place.at f.bytes) } in
      elim (eqb_tells place.file at) [
        | inl same ↦
            ap (option_map view) (ap (slice_get (set files at next)) same.1 ∙ slice_get-set_same files at file next here)
            ∙ (λ k. Some (record { name = named k; left = same_left same.1 k }))
            ∙ sym (ap (option_map view) (ap (slice_get files) same.1 ∙ here))
        | inr other ↦ ap (option_map view) (slice_get-set_other files at place.file next other.1)
      ]

  -- the file that is being written is still one that was created
  written-set : (writing : Option ℕ) → (file.made ≡ true → next.made ≡ true) → IsWrittenAt files writing → IsWrittenAt (set files at next) writing
  written-set None made written = tt
  written-set (Some w) made (f, there, is_made) = elim (eqb_tells w at) [
    | inl same ↦
        let is_file = ap (λ (o : Option Stored). (unwrap_or o f).made) (sym there ∙ ap (slice_get files) same.1 ∙ here) in
        (next, ap (slice_get (set files at next)) same.1 ∙ slice_get-set_same files at file next here, made (sym is_file ∙ is_made))
    | inr other ↦ (f, slice_get-set_other files at w next other.1 ∙ there, is_made)
  ]

  -- the names stay
  name-set : (w : ℕ) → option_map (λ (f : Stored). f.name) (slice_get (set files at next) w) ≡ option_map (λ (f : Stored). f.name) (slice_get files w)
  name-set w =
      let name : Stored → List ℕ = λ f. f.name in
      elim (eqb_tells w at) [
        | inl same ↦
            ap (option_map name) (ap (slice_get (set files at next)) same.1 ∙ slice_get-set_same files at file next here)
            ∙ ap Some named
            ∙ sym (ap (option_map name) (ap (slice_get files) same.1 ∙ here))
        | inr other ↦ ap (option_map name) (slice_get-set_other files at w next other.1)
      ]

-- ---- a file was made or emptied

after_same : (name : List ℕ) (r : Reading) → r.name ≡ name → reading_after name r ≡ record r { left = [] }
after_same name r same = ap (λ b. cond b (record r { left = [] }) r) (ap (λ n. bytes_eq r.name n) (sym same) ∙ bytes_eq-same r.name)

after_other : (name : List ℕ) (r : Reading) → r.name ≢ name → reading_after name r ≡ r
after_other name r differ = ap (λ b. cond b (record r { left = [] }) r) (bytes_eq-other r.name name differ)

module _ (files : List Stored) (at : ℕ) (file : Stored) (name : List ℕ) (here : slice_get files at ≡ Some file) (named : file.name ≡ name) where
  next : Stored
  next = record file { made = true; bytes = [] }

  there_is : slice_get (set files at next) at ≡ Some (record file { made = true; bytes = [] })
  unfolding next
  there_is = slice_get-set_same files at file next here

  moved-inside : (reading : Option Place) → IsReadAt files reading → IsReadAt (set files at next) (moved_place at reading)
  unfolding next
  moved-inside None inside = tt
  moved-inside (Some place) (f, there, low, high) =
      let start : Place = record { file = at; at = 0; end = 0 } in
      let P : Bool → Type 0 = λ b. IsReadAt (set files at next) (Some (cond b start place)) in
      elim (eqb_tells place.file at) [
        | inl same ↦ subst P (sym same.0) (next, there_is, omega arith, omega arith)
        | inr other ↦ subst P (sym other.0) (f, slice_get-set_other files at place.file next other.1 ∙ there, low, high)
      ]

  moved-reading : (reading : Option Place) → IsDistinct files → IsReadAt files reading
      → option_and_then (reading_at (set files at next)) (moved_place at reading) ≡ option_map (reading_after name) (option_and_then (reading_at files) reading)
  unfolding next
  moved-reading None distinct inside = refl
  moved-reading (Some place) distinct (f, there, low, high) =
      let start : Place = record { file = at; at = 0; end = 0 } in
      let view : Stored → Reading = λ g. record { name = g.name; left = take (place.end - place.at) (drop place.at g.bytes) } in
      let first : Stored → Reading = λ g. record { name = g.name; left = take (0 - 0) (drop 0 g.bytes) } in
      let old : option_map (reading_after name) (reading_at files place) ≡ Some (reading_after name (view f)) = ap (λ o. option_map (reading_after name) (option_map view o)) there in
      elim (eqb_tells place.file at) [
        | inl same ↦
            let is_file = ap (λ (o : Option Stored). (unwrap_or o f).name) (sym there ∙ ap (slice_get files) same.1 ∙ here) in
            ap (λ b. reading_at (set files at next) (cond b start place)) same.0
            ∙ ap (option_map first) there_is
            ∙ (λ k. Some (record { name = sym is_file k; left = [] }))
            ∙ ap Some (sym (after_same name (view f) (is_file ∙ named)))
            ∙ sym old
        | inr other ↦
            ap (λ b. reading_at (set files at next) (cond b start place)) other.0
            ∙ ap (option_map view) (slice_get-set_other files at place.file next other.1 ∙ there)
            ∙ ap Some (sym (after_other name (view f) (λ e. other_names files place.file at f file distinct there here other.1 (e ∙ sym named))))
            ∙ sym old
      ]

  pub Creates-at : Creates files (set files at (record file { made = true; bytes = [] })) name at
  unfolding next
  Creates-at = record {
    reserved = λ distinct. ap (λ n. is_some (get (rooms_of files) n)) (sym named) ∙ ap is_some (rooms_of-at files at file distinct here);
    rooms = rooms_of-set_same files at file next here refl refl;
    kept = λ reading writing kept. record {
      distinct = IsDistinct-set files at file next here refl kept.distinct;
      reading_inside = moved-inside reading kept.reading_inside;
      writing_made = (next, there_is, refl);
    };
    state = λ reading writing kept k. record {
      files = (files_of-set files at file next kept.distinct here refl refl ∙ ap (λ n. insert (files_of files) n []) named) k;
      reading = moved-reading reading kept.distinct kept.reading_inside k;
      writing = (ap (option_map (λ (g : Stored). g.name)) there_is ∙ ap Some named) k;
    };
  }

-- ---- a piece was put behind the bytes of a file

-- bytes within the old end stay
left_stays : (at end : ℕ) (bytes piece : List ℕ) → at ≤ end → end ≤ length bytes → take (end - at) (drop at (bytes ++ piece)) ≡ take (end - at) (drop at bytes)
left_stays at end bytes piece low high =
    ap (take (end - at)) (drop-append-le at bytes piece (omega arith))
    ∙ take-append-le (end - at) (drop at bytes) piece (omega (arith, length-drop at bytes))

module _ (files : List Stored) (at : ℕ) (file : Stored) (piece : List ℕ) (here : slice_get files at ≡ Some file) where
  grown : Stored
  grown = record file { bytes = file.bytes ++ piece }

  grown-left : (place : Place) → IsReadAt files (Some place) → place.file ≡ at
      → take (place.end - place.at) (drop place.at (file.bytes ++ piece)) ≡ take (place.end - place.at) (drop place.at file.bytes)
  grown-left place (f, there, low, high) same =
      let is_file = ap (λ (o : Option Stored). (unwrap_or o f).bytes) (sym there ∙ ap (slice_get files) same ∙ here) in
      left_stays place.at place.end file.bytes piece low (subst (λ (bytes : List ℕ). place.end ≤ length bytes) is_file high)

  grown-reading : (reading : Option Place) → IsReadAt files reading → option_and_then (reading_at (set files at grown)) reading ≡ option_and_then (reading_at files) reading
  unfolding grown
  grown-reading None inside = refl
  grown-reading (Some place) inside = reading-set files at file grown here refl place (grown-left place inside)

  grown-state : (reading : Option Place) → IsKept files reading (Some at) → stored_state (set files at grown) reading (Some at) ≡ appended piece (stored_state files reading (Some at))
  unfolding grown
  grown-state reading kept =
      let state = stored_state files reading (Some at) in
      let f = kept.writing_made.0 in
      let made : file.made ≡ true = ap (λ (o : Option Stored). (unwrap_or o f).made) (sym here ∙ kept.writing_made.1) ∙ kept.writing_made.2 in
      let bytes_is : named_bytes state file.name ≡ file.bytes =
      ap (λ (o : Option (List ℕ)). unwrap_or o []) (files_of-at files at file kept.distinct here ∙ ap (λ b. cond b (Some file.bytes) None) made) in
      let after : List ℕ → FilesState = λ name. record state { files = insert state.files name (named_bytes state name ++ piece) } in
      let right : appended piece state ≡ record state { files = insert (files_of files) file.name (file.bytes ++ piece) } =
      ap (λ (o : Option Stored). option_map_or after (option_map (λ (g : Stored). g.name) o) state) here
      ∙ (λ k. record state { files = insert (files_of files) file.name (bytes_is k ++ piece) }) in
      let left : stored_state (set files at grown) reading (Some at) ≡ record state { files = insert (files_of files) file.name (file.bytes ++ piece) } =
      λ k. record {
        files = files_of-set files at file grown kept.distinct here refl made k;
        reading = grown-reading reading kept.reading_inside k;
        writing = name-set files at file grown here refl at k;
      } in
      left ∙ sym right

  pub Grows-at : Grows files (set files at (record file { bytes = file.bytes ++ piece })) at piece
  unfolding grown
  Grows-at = record {
    rooms = rooms_of-set_same files at file grown here refl refl;
    kept = λ reading kept. record {
      distinct = IsDistinct-set files at file grown here refl kept.distinct;
      reading_inside = inside-set files at file grown here refl reading (omega (arith, length-append file.bytes piece)) kept.reading_inside;
      writing_made = written-set files at file grown here refl (Some at) (λ made. made) kept.writing_made;
    };
    state = λ reading kept. grown-state reading kept;
  }

-- ---- a name was reserved

module _ (files : List Stored) (at : ℕ) (file : Stored) (name : List ℕ) (room : ℕ) (here : slice_get files at ≡ Some file) (named : file.name ≡ name) where
  wide : Stored
  wide = record file { room = max room file.room }

  wide-reading : (reading : Option Place) → option_and_then (reading_at (set files at wide)) reading ≡ option_and_then (reading_at files) reading
  unfolding wide
  wide-reading None = refl
  wide-reading (Some place) = reading-set files at file wide here refl place (λ same. refl)

  wide-writing : (writing : Option ℕ) → option_and_then (λ w. option_map (λ (f : Stored). f.name) (slice_get (set files at wide) w)) writing
      ≡ option_and_then (λ w. option_map (λ (f : Stored). f.name) (slice_get files w)) writing
  unfolding wide
  wide-writing None = refl
  wide-writing (Some w) = name-set files at file wide here refl w

  pub Reserves-wide : Reserves files (set files at (record file { room = max room file.room })) name room
  unfolding wide
  Reserves-wide = record {
    rooms = λ distinct.
        let room_is : file.room ≡ unwrap_or (get (rooms_of files) name) 0 =
        sym (ap (λ (o : Option ℕ). unwrap_or o 0) (ap (get (rooms_of files)) (sym named) ∙ rooms_of-at files at file distinct here)) in
        rooms_of-set files at file wide distinct here refl ∙ (λ k. insert (rooms_of files) (named k) (max room (room_is k)));
    kept = λ reading writing kept. record {
      distinct = IsDistinct-set files at file wide here refl kept.distinct;
      reading_inside = inside-set files at file wide here refl reading (omega arith) kept.reading_inside;
      writing_made = written-set files at file wide here refl writing (λ made. made) kept.writing_made;
    };
    state = λ reading writing kept k. record {
      files = files_of-set_same files at file wide here refl refl refl k;
      reading = wide-reading reading k;
      writing = wide-writing writing k;
    };
  }

module _ (files : List Stored) (name : List ℕ) (room : ℕ) (others : AllOther name files) where
  fresh : Stored
  fresh = record { name = name; made = false; bytes = []; room = room }

  fresh-inside : (reading : Option Place) → IsReadAt files reading → IsReadAt (files ++ fresh ∷ []) reading
  fresh-inside None inside = tt
  fresh-inside (Some place) (f, there, low, high) = (f, slice_get-front files (fresh ∷ []) place.file f there, low, high)

  fresh-written : (writing : Option ℕ) → IsWrittenAt files writing → IsWrittenAt (files ++ fresh ∷ []) writing
  fresh-written None written = tt
  fresh-written (Some w) (f, there, made) = (f, slice_get-front files (fresh ∷ []) w f there, made)

  fresh-reading : (reading : Option Place) → IsReadAt files reading → option_and_then (reading_at (files ++ fresh ∷ [])) reading ≡ option_and_then (reading_at files) reading
  fresh-reading None inside = refl
  fresh-reading (Some place) (f, there, low, high) =
      let view : Stored → Reading = λ g. record { name = g.name; left = take (place.end - place.at) (drop place.at g.bytes) } in
      ap (option_map view) (slice_get-front files (fresh ∷ []) place.file f there ∙ sym there)

  fresh-writing : (writing : Option ℕ) → IsWrittenAt files writing → option_and_then (λ w. option_map (λ (f : Stored). f.name) (slice_get (files ++ fresh ∷ []) w)) writing
      ≡ option_and_then (λ w. option_map (λ (f : Stored). f.name) (slice_get files w)) writing
  fresh-writing None written = refl
  fresh-writing (Some w) (f, there, made) = ap (option_map (λ (g : Stored). g.name)) (slice_get-front files (fresh ∷ []) w f there ∙ sym there)

  pub Reserves-fresh : Reserves files (files ++ record { name = name; made = false; bytes = []; room = room } ∷ []) name room
  unfolding fresh
  Reserves-fresh = record {
    rooms = λ distinct.
        let most : room ≡ max room 0 = omega arith in
        rooms_of-push files fresh others
        ∙ ap (insert (rooms_of files) name) (most ∙ ap (λ (o : Option ℕ). max room (unwrap_or o 0)) (sym (rooms_of-missing name files others)));
    kept = λ reading writing kept. record {
      distinct = IsDistinct-push files fresh others kept.distinct;
      reading_inside = fresh-inside reading kept.reading_inside;
      writing_made = fresh-written writing kept.writing_made;
    };
    state = λ reading writing kept k. record {
      files = files_of-push files fresh refl k;
      reading = fresh-reading reading kept.reading_inside k;
      writing = fresh-writing writing kept.writing_made k;
    };
  }
