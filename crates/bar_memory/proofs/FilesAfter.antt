-- What files are after one was opened or written.
use Rattle.std.proofs.Common.{◌≡◌, ℕ, true, List, [], ◌++◌, length, take, Option, None, Some, refl, sym, ap, subst}
use Rattle.std.proofs.Math.Seq.{take-length}
use Rattle.std.specs.Option.{option_map_or, unwrap_or, is_some}
use Rattle.std.specs.FinMap.{get}
use Rattle.std.specs.Io.KnownBytes.{Appends}
use Rattle.bar_base.specs.Files.{FileMap, Reading, FilesState, Opens, held_of, beside_held}
use Rattle.bar_memory.specs.MemoryFiles.{opened, appended}
use Rattle.bar_base.proofs.NameMaps.{get-inserted_same, remove-inserted}

grown : (old : Option (List ℕ)) (piece : List ℕ) → Appends old (Some (unwrap_or old [] ++ piece)) piece
grown None piece = tt
grown (Some bytes) piece = refl

written : (files : FileMap) (reading : Option Reading) (writing : Option (List ℕ)) (piece : List ℕ)
    → let state : FilesState = record { files = files; reading = reading; writing = writing } in Appends (held_of (Some state)) (held_of (Some (appended piece state))) piece
written files reading None piece = tt
written files reading (Some name) piece =
    let old = get files name in
    subst (λ new. Appends old new piece) (sym (get-inserted_same files name (unwrap_or old [] ++ piece))) (grown old piece)

-- the file that is being written grew by the piece
pub held-appended : (state : FilesState) (piece : List ℕ) → Appends (held_of (Some state)) (held_of (Some (appended piece state))) (take (length piece) piece)
held-appended state piece =
    subst (Appends (held_of (Some state)) (held_of (Some (appended piece state)))) (sym (take-length piece)) (written state.files state.reading state.writing piece)

stayed : (files : FileMap) (reading : Option Reading) (writing : Option (List ℕ)) (piece : List ℕ)
    → let state : FilesState = record { files = files; reading = reading; writing = writing } in beside_held (appended piece state) ≡ beside_held state
stayed files reading None piece = refl
stayed files reading (Some name) piece = λ k. record {
  files = remove-inserted files name (unwrap_or (get files name) [] ++ piece) k;
  reading = reading;
  writing = Some name;
}

-- all else is as it was
pub beside-appended : (state : FilesState) (piece : List ℕ) → beside_held (appended piece state) ≡ beside_held state
beside-appended state piece = stayed state.files state.reading state.writing piece

begun : (name : List ℕ) (state : FilesState) (there : Option (List ℕ)) → get state.files name ≡ there → is_some there ≡ true
    → (bytes : List ℕ) × (get state.files name ≡ Some bytes) × ((opened name state).reading ≡ Some (record { name = name; left = bytes }))
begun name state None is some = absurd (cc)
begun name state (Some bytes) is some =
    let next : List ℕ → FilesState = λ content. record state { reading = Some (record { name = name; left = content }) } in
    (bytes, is, ap (λ o. (option_map_or next o state).reading) is)

-- a file that is there is opened
pub Opens-opened : (name : List ℕ) (state : FilesState) → is_some (get state.files name) ≡ true → Opens name (Some state) (Some (opened name state))
Opens-opened name state some = begun name state (get state.files name) refl some
