-- A file that was created and then written, by its name.
use Rattle.std.proofs.Common.{◌≡◌, ℕ, Bool, true, false, cond, List, [], take, Option, None, Some, refl, sym, ap, subst, inl, inr, ◌∙◌}
use Rattle.std.specs.Option.{option_map, option_and_then, option_map_or}
use Rattle.std.specs.Str.{bytes_eq}
use Rattle.std.specs.FinMap.{get, insert, remove}
use Rattle.std.specs.Io.KnownBytes.{Appends}
use Rattle.std.proofs.lemmas.Slice.Eq.{bytes_eq-Decides}
use Rattle.bar_base.specs.Files.{FileMap, FilesState, SameFiles, HoldsFile, HoldsPart, created, files_in, held_of, beside_held, beside_writing, others_of}
use Rattle.bar_base.specs.Outside.{AppendsPrefix}
use Rattle.bar_base.proofs.NameMaps.{get-inserted, get-inserted_same, get-removed, remove-inserted, same_name_map}

-- a file that was empty holds what was appended
held : (new : Option (List ℕ)) (bytes : List ℕ) → Appends (Some []) new bytes → new ≡ Some bytes
held None bytes grown = absurd grown
held (Some now) bytes grown = ap Some grown

by_test : {X : Type 0} (b : Bool) (x y z : Option X) → (b ≡ true → x ≡ y) → cond b None x ≡ cond b None z → x ≡ cond b y z
by_test true x y z here others = here refl
by_test false x y z here others = others

-- a map is known by what is under one name and by the others
rebuilt : (new old : FileMap) (name bytes : List ℕ) → get new name ≡ Some bytes → remove new name ≡ remove old name → new ≡ insert old name bytes
rebuilt new old name bytes here others = same_name_map new (insert old name bytes) (λ q.
    by_test (bytes_eq q name) (get new q) (Some bytes) (get old q)
    (λ is_name. ap (get new) ((bytes_eq-Decides q name).0 is_name) ∙ here)
    (sym (get-removed new name q) ∙ ap (λ m. get m q) others ∙ get-removed old name q)
    ∙ sym (get-inserted old name bytes q))

in_state : (old new : FilesState) (name bytes : List ℕ) → Appends (held_of (Some (created name old))) (held_of (Some new)) bytes → beside_held new ≡ beside_held (created name old)
    → new.files ≡ insert old.files name bytes
in_state old new name bytes grown beside =
    let writing : new.writing ≡ Some name = ap (λ (s : FilesState). s.writing) beside in
    let others : others_of new ≡ remove (insert old.files name []) name = ap (λ (s : FilesState). s.files) beside in
    let removed : remove new.files name ≡ remove old.files name =
    sym (ap (λ (o : Option (List ℕ)). option_map_or (remove new.files) o new.files) writing) ∙ others ∙ remove-inserted old.files name [] in
    let from_empty = subst (λ (o : Option (List ℕ)). Appends o (held_of (Some new)) bytes) (get-inserted_same old.files name []) grown in
    let here : get new.files name ≡ Some bytes =
    sym (ap (option_and_then (get new.files)) writing) ∙ held (held_of (Some new)) bytes from_empty in
    rebuilt new.files old.files name bytes here removed

-- some values are the same where they are the same under `Some`
same_some : {X : Type 0} (d x y : X) → Some x ≡ Some y → x ≡ y
same_some d x y same = cc

no_some : {X : Type 0} (x : X) → ◌≡◌ {A = Option X} None (Some x) → ⊥
no_some x is = cc

-- what was written to a file that was created just before is what it holds
pub HoldsFile-written : (name bytes : List ℕ) (old made new : Option FilesState) → made ≡ option_map (created name) old → Appends (held_of made) (held_of new) bytes
    → option_map beside_held new ≡ option_map beside_held made → HoldsFile name bytes old new
HoldsFile-written name bytes None made None is grown beside = refl
HoldsFile-written name bytes None made (Some t) is grown beside = absurd (no_some (beside_held t) (sym (beside ∙ ap (option_map beside_held) is)))
HoldsFile-written name bytes (Some s) made None is grown beside = absurd (no_some (beside_held (created name s)) (beside ∙ ap (option_map beside_held) is))
HoldsFile-written name bytes (Some s) made (Some t) is grown beside =
    ap Some (in_state s t name bytes (subst (λ (m : Option FilesState). Appends (held_of m) (held_of (Some t)) bytes) is grown)
    (same_some (beside_held s) (beside_held t) (beside_held (created name s)) (beside ∙ ap (option_map beside_held) is)))

-- the same of a prefix of the bytes
pub HoldsPart-written : (name bytes : List ℕ) (old made new : Option FilesState) → made ≡ option_map (created name) old → AppendsPrefix (held_of made) (held_of new) bytes
    → option_map beside_held new ≡ option_map beside_held made → HoldsPart name bytes old new
HoldsPart-written name bytes old made new is part beside = inr (part.count, HoldsFile-written name (take part.count bytes) old made new is part.prefix beside)

-- where a creation was refused, the files are as they were
pub HoldsPart-refused : (name bytes : List ℕ) (old new : Option FilesState) → option_map beside_writing new ≡ option_map beside_writing old → HoldsPart name bytes old new
HoldsPart-refused name bytes None None same = inl refl
HoldsPart-refused name bytes None (Some t) same = absurd (no_some (beside_writing t) (sym same))
HoldsPart-refused name bytes (Some s) None same = absurd (no_some (beside_writing s) same)
HoldsPart-refused name bytes (Some s) (Some t) same = inl (ap (λ (o : Option FilesState). files_in o) same)

-- what was written over files that are the same was written over these
pub HoldsFile-over : (name bytes : List ℕ) (old mid new : Option FilesState) → SameFiles old mid → HoldsFile name bytes mid new → HoldsFile name bytes old new
HoldsFile-over name bytes old mid new same holds = holds ∙ ap (option_map (λ files. insert files name bytes)) same

pub HoldsPart-over : (name bytes : List ℕ) (old mid new : Option FilesState) → SameFiles old mid → HoldsPart name bytes mid new → HoldsPart name bytes old new
HoldsPart-over name bytes old mid new same (inl kept) = inl (kept ∙ same)
HoldsPart-over name bytes old mid new same (inr (count, holds)) = inr (count, HoldsFile-over name (take count bytes) old mid new same holds)

pub ruleset named_file = (HoldsFile-written, HoldsPart-written, HoldsPart-refused)
