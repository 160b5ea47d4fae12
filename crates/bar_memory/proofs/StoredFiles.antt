-- Lists of reserved files, and the maps that they are.
use Rattle.std.proofs.Common.{◌≡◌, ◌≢◌, ℕ, zero, suc, Bool, true, false, cond, List, [], ◌∷◌, ◌++◌, Option, None, Some, refl, sym, ap, subst, ◌∙◌}
use Rattle.std.proofs.Math.ListN.{set}
use Rattle.std.specs.List.{slice_get}
use Rattle.std.specs.Option.{unwrap_or}
use Rattle.std.specs.Str.{bytes_eq}
use Rattle.std.specs.FinMap.{get, insert, empty, get-empty}
use Rattle.std.specs.Cmp.Lexicographic.{slice_cmp}
use Rattle.std.specs.Ordering.{nat_cmp}
use Rattle.std.proofs.lemmas.Slice.Eq.{bytes_eq-Decides}
use Rattle.bar_memory.specs.StoredFiles.{Stored, AllOther, IsDistinct, files_of, rooms_of}
use Rattle.bar_base.proofs.NameMaps.{NameMap, twice, get-inserted, same_name_map, bytes_eq-same, bytes_eq-other}

-- ---- one item of a list

same_item : {A : Type 0} (x y : A) → Some x ≡ Some y → x ≡ y
same_item x y e = ap (λ o. unwrap_or o x) e

no_item : {A : Type 0} (x : A) → None ≡ Some x → ⊥
no_item x e = cc

module _ {A : Type 0} where
  pub slice_get-set_same : (xs : List A) (i : ℕ) (x y : A) → slice_get xs i ≡ Some x → slice_get (set xs i y) i ≡ Some y
  slice_get-set_same [] i x y here = absurd (no_item x here)
  slice_get-set_same (z ∷ xs) zero x y here = refl
  slice_get-set_same (z ∷ xs) (suc i) x y here = slice_get-set_same xs i x y here

  pub slice_get-set_other : (xs : List A) (i j : ℕ) (y : A) → j ≢ i → slice_get (set xs i y) j ≡ slice_get xs j
  slice_get-set_other [] i j y differ = refl
  slice_get-set_other (z ∷ xs) zero zero y differ = absurd (differ refl)
  slice_get-set_other (z ∷ xs) zero (suc j) y differ = refl
  slice_get-set_other (z ∷ xs) (suc i) zero y differ = refl
  slice_get-set_other (z ∷ xs) (suc i) (suc j) y differ = slice_get-set_other xs i j y (λ e. differ (ap suc e))

  pub slice_get-front : (xs ys : List A) (i : ℕ) (x : A) → slice_get xs i ≡ Some x → slice_get (xs ++ ys) i ≡ Some x
  slice_get-front [] ys i x here = absurd (no_item x here)
  slice_get-front (z ∷ xs) ys zero x here = here
  slice_get-front (z ∷ xs) ys (suc i) x here = slice_get-front xs ys i x here

-- ---- names

pub AllOther-at : (name : List ℕ) (files : List Stored) (i : ℕ) (file : Stored) → AllOther name files → slice_get files i ≡ Some file → file.name ≢ name
AllOther-at name [] i file others here = absurd (no_item file here)
AllOther-at name (first ∷ files) zero file others here = λ same. others.0 (ap (λ (f : Stored). f.name) (same_item first file here) ∙ same)
AllOther-at name (first ∷ files) (suc i) file others here = AllOther-at name files i file others.1 here

pub AllOther-set : (name : List ℕ) (files : List Stored) (i : ℕ) (file next : Stored) → slice_get files i ≡ Some file → next.name ≡ file.name → AllOther name files → AllOther name (set files i next)
AllOther-set name [] i file next here same others = absurd (no_item file here)
AllOther-set name (first ∷ files) zero file next here same others = (λ e. others.0 (ap (λ (f : Stored). f.name) (same_item first file here) ∙ sym same ∙ e), others.1)
AllOther-set name (first ∷ files) (suc i) file next here same others = (others.0, AllOther-set name files i file next here same others.1)

pub AllOther-push : (name : List ℕ) (files : List Stored) (file : Stored) → AllOther name files → file.name ≢ name → AllOther name (files ++ file ∷ [])
AllOther-push name [] file others differ = (differ, tt)
AllOther-push name (first ∷ files) file others differ = (others.0, AllOther-push name files file others.1 differ)

pub IsDistinct-set : (files : List Stored) (i : ℕ) (file next : Stored) → slice_get files i ≡ Some file → next.name ≡ file.name → IsDistinct files → IsDistinct (set files i next)
IsDistinct-set [] i file next here same distinct = absurd (no_item file here)
IsDistinct-set (first ∷ files) zero file next here same distinct =
    (subst (λ name. AllOther name files) (ap (λ (f : Stored). f.name) (same_item first file here) ∙ sym same) distinct.0, distinct.1)
IsDistinct-set (first ∷ files) (suc i) file next here same distinct =
    (AllOther-set first.name files i file next here same distinct.0, IsDistinct-set files i file next here same distinct.1)

pub IsDistinct-push : (files : List Stored) (file : Stored) → AllOther file.name files → IsDistinct files → IsDistinct (files ++ file ∷ [])
IsDistinct-push [] file others distinct = (tt, tt)
IsDistinct-push (first ∷ files) file others distinct =
    (AllOther-push first.name files file distinct.0 (λ e. others.0 (sym e)), IsDistinct-push files file others.1 distinct.1)

-- ---- a map that a list of files stands for: under each name the value of the first file of that name that has one

abbrev first_of : {X : Type 0} → Option X → Option X → Option X
first_of None later = later
first_of (Some x) later = Some x

first_of-none : {X : Type 0} (v : Option X) → first_of v None ≡ v
first_of-none None = refl
first_of-none (Some x) = refl

both : {A : Type 0} (b : Bool) (x : A) → cond b x x ≡ x
both true x = refl
both false x = refl

apart : {X : Type 0} (b c : Bool) (v x y : Option X) → (b ≡ true → c ≡ true → ⊥) → cond c (first_of v (cond b x y)) (cond b x y) ≡ cond b x (cond c (first_of v y) y)
apart true true v x y h = absurd (h refl refl)
apart true false v x y h = refl
apart false true v x y h = refl
apart false false v x y h = refl

module _ {X : Type 0} (map : List Stored → NameMap X) (value : Stored → Option X)
    (none : (q : List ℕ) → get (map []) q ≡ None)
    (more : (file : Stored) (files : List Stored) (q : List ℕ) → get (map (file ∷ files)) q ≡ cond (bytes_eq q file.name) (first_of (value file) (get (map files) q)) (get (map files) q)) where
  -- no file has the name
  get-missing : (name : List ℕ) (files : List Stored) → AllOther name files → get (map files) name ≡ None
  get-missing name [] others = none name
  get-missing name (file ∷ files) others =
      more file files name
      ∙ ap (λ b. cond b (first_of (value file) (get (map files) name)) (get (map files) name)) (bytes_eq-other name file.name (λ e. others.0 (sym e)))
      ∙ get-missing name files others.1

  -- the first file is found under its name
  get-first : (file : Stored) (files : List Stored) → AllOther file.name files → get (map (file ∷ files)) file.name ≡ value file
  get-first file files others =
      more file files file.name
      ∙ ap (λ b. cond b (first_of (value file) (get (map files) file.name)) (get (map files) file.name)) (bytes_eq-same file.name)
      ∙ ap (first_of (value file)) (get-missing file.name files others)
      ∙ first_of-none (value file)

  -- the file in a place is found under its name
  get-at : (files : List Stored) (i : ℕ) (file : Stored) → IsDistinct files → slice_get files i ≡ Some file → get (map files) file.name ≡ value file
  get-at [] i file distinct here = absurd (no_item file here)
  get-at (first ∷ files) zero file distinct here = subst (λ (f : Stored). get (map (first ∷ files)) f.name ≡ value f) (same_item first file here) (get-first first files distinct.0)
  get-at (first ∷ files) (suc i) file distinct here =
      more first files file.name
      ∙ ap (λ b. cond b (first_of (value first) (get (map files) file.name)) (get (map files) file.name)) (bytes_eq-other file.name first.name (AllOther-at first.name files i file distinct.0 here))
      ∙ get-at files i file distinct.1 here

  -- a file was put in the place of one of the same name and the same value
  get-set_same : (files : List Stored) (i : ℕ) (file next : Stored) → slice_get files i ≡ Some file → next.name ≡ file.name → value next ≡ value file
      → (q : List ℕ) → get (map (set files i next)) q ≡ get (map files) q
  get-set_same [] i file next here same kept q = refl
  get-set_same (first ∷ files) zero file next here same kept q =
      let is_first = sym (same_item first file here) in
      let names = same ∙ ap (λ (f : Stored). f.name) is_first in
      let values = kept ∙ ap value is_first in
      more next files q ∙ (λ k. cond (bytes_eq q (names k)) (first_of (values k) (get (map files) q)) (get (map files) q)) ∙ sym (more first files q)
  get-set_same (first ∷ files) (suc i) file next here same kept q =
      more first (set files i next) q
      ∙ ap (λ later. cond (bytes_eq q first.name) (first_of (value first) later) later) (get-set_same files i file next here same kept q)
      ∙ sym (more first files q)

  -- a file with a value was put in the place of one of the same name
  get-set : (files : List Stored) (i : ℕ) (file next : Stored) (x : X) → IsDistinct files → slice_get files i ≡ Some file → next.name ≡ file.name → value next ≡ Some x
      → (q : List ℕ) → get (map (set files i next)) q ≡ cond (bytes_eq q file.name) (Some x) (get (map files) q)
  get-set [] i file next x distinct here same valued q = absurd (no_item file here)
  get-set (first ∷ files) zero file next x distinct here same valued q =
      let later = get (map files) q in
      let old : get (map (first ∷ files)) q ≡ cond (bytes_eq q file.name) (first_of (value first) later) later =
      more first files q ∙ ap (λ (f : Stored). cond (bytes_eq q f.name) (first_of (value first) later) later) (same_item first file here) in
      more next files q
      ∙ (λ k. cond (bytes_eq q (same k)) (first_of (valued k) later) later)
      ∙ sym (ap (cond (bytes_eq q file.name) (Some x)) old ∙ twice (bytes_eq q file.name) (Some x) (first_of (value first) later) later)
  get-set (first ∷ files) (suc i) file next x distinct here same valued q =
      let differ = AllOther-at first.name files i file distinct.0 here in
      more first (set files i next) q
      ∙ ap (λ later. cond (bytes_eq q first.name) (first_of (value first) later) later) (get-set files i file next x distinct.1 here same valued q)
      ∙ apart (bytes_eq q file.name) (bytes_eq q first.name) (value first) (Some x) (get (map files) q)
      (λ is_file is_first. differ (sym ((bytes_eq-Decides q file.name).0 is_file) ∙ (bytes_eq-Decides q first.name).0 is_first))
      ∙ sym (ap (cond (bytes_eq q file.name) (Some x)) (more first files q))

  -- a file with a new name was put behind the others
  get-push : (files : List Stored) (file : Stored) → AllOther file.name files
      → (q : List ℕ) → get (map (files ++ file ∷ [])) q ≡ cond (bytes_eq q file.name) (value file) (get (map files) q)
  get-push [] file others q =
      more file [] q
      ∙ ap (λ later. cond (bytes_eq q file.name) (first_of (value file) later) (get (map []) q)) (none q)
      ∙ ap (λ v. cond (bytes_eq q file.name) v (get (map []) q)) (first_of-none (value file))
  get-push (first ∷ files) file others q =
      more first (files ++ file ∷ []) q
      ∙ ap (λ later. cond (bytes_eq q first.name) (first_of (value first) later) later) (get-push files file others.1 q)
      ∙ apart (bytes_eq q file.name) (bytes_eq q first.name) (value first) (value file) (get (map files) q)
      (λ is_file is_first. others.0 (sym ((bytes_eq-Decides q first.name).0 is_first) ∙ (bytes_eq-Decides q file.name).0 is_file))
      ∙ sym (ap (cond (bytes_eq q file.name) (value file)) (more first files q))

-- ---- the files that were created

-- the bytes of a file that was created
pub made_bytes : Stored → Option (List ℕ)
made_bytes file = cond file.made (Some file.bytes) None

files_step : (made : Bool) (files : NameMap (List ℕ)) (name bytes q : List ℕ)
    → get (cond made (insert files name bytes) files) q ≡ cond (bytes_eq q name) (first_of (cond made (Some bytes) None) (get files q)) (get files q)
files_step true files name bytes q = get-inserted files name bytes q
files_step false files name bytes q = sym (both (bytes_eq q name) (get files q))

files-more : (file : Stored) (files : List Stored) (q : List ℕ)
    → get (files_of (file ∷ files)) q ≡ cond (bytes_eq q file.name) (first_of (made_bytes file) (get (files_of files) q)) (get (files_of files) q)
unfolding made_bytes
files-more file files q = files_step file.made (files_of files) file.name file.bytes q

files-none : (q : List ℕ) → get (files_of []) q ≡ None
files-none q = get-empty (slice_cmp nat_cmp) q

pub files_of-missing : (name : List ℕ) (files : List Stored) → AllOther name files → get (files_of files) name ≡ None
files_of-missing name files others = get-missing files_of made_bytes files-none files-more name files others

pub files_of-at : (files : List Stored) (i : ℕ) (file : Stored) → IsDistinct files → slice_get files i ≡ Some file → get (files_of files) file.name ≡ cond file.made (Some file.bytes) None
unfolding made_bytes
files_of-at files i file distinct here = get-at files_of made_bytes files-none files-more files i file distinct here

pub files_of-set_same : (files : List Stored) (i : ℕ) (file next : Stored) → slice_get files i ≡ Some file → next.name ≡ file.name → next.made ≡ file.made → next.bytes ≡ file.bytes
    → files_of (set files i next) ≡ files_of files
unfolding made_bytes
files_of-set_same files i file next here same made bytes =
    same_name_map (files_of (set files i next)) (files_of files) (get-set_same files_of made_bytes files-none files-more files i file next here same (λ k. cond (made k) (Some (bytes k)) None))

pub files_of-set : (files : List Stored) (i : ℕ) (file next : Stored) → IsDistinct files → slice_get files i ≡ Some file → next.name ≡ file.name → next.made ≡ true
    → files_of (set files i next) ≡ insert (files_of files) file.name next.bytes
unfolding made_bytes
files_of-set files i file next distinct here same made =
    same_name_map (files_of (set files i next)) (insert (files_of files) file.name next.bytes) (λ q.
    get-set files_of made_bytes files-none files-more files i file next next.bytes distinct here same (ap (λ m. cond m (Some next.bytes) None) made) q
    ∙ sym (get-inserted (files_of files) file.name next.bytes q))

pub files_of-push : (files : List Stored) (file : Stored) → file.made ≡ false → files_of (files ++ file ∷ []) ≡ files_of files
files_of-push [] file made = ap (λ m. cond m (insert empty file.name file.bytes) empty) made
files_of-push (first ∷ files) file made = ap (λ later. cond first.made (insert later first.name first.bytes) later) (files_of-push files file made)

-- ---- the rooms of the reserved files

rooms-more : (file : Stored) (files : List Stored) (q : List ℕ)
    → get (rooms_of (file ∷ files)) q ≡ cond (bytes_eq q file.name) (first_of (Some file.room) (get (rooms_of files) q)) (get (rooms_of files) q)
rooms-more file files q = get-inserted (rooms_of files) file.name file.room q

rooms-none : (q : List ℕ) → get (rooms_of []) q ≡ None
rooms-none q = get-empty (slice_cmp nat_cmp) q

pub rooms_of-missing : (name : List ℕ) (files : List Stored) → AllOther name files → get (rooms_of files) name ≡ None
rooms_of-missing name files others = get-missing rooms_of (λ file. Some file.room) rooms-none rooms-more name files others

pub rooms_of-at : (files : List Stored) (i : ℕ) (file : Stored) → IsDistinct files → slice_get files i ≡ Some file → get (rooms_of files) file.name ≡ Some file.room
rooms_of-at files i file distinct here = get-at rooms_of (λ f. Some f.room) rooms-none rooms-more files i file distinct here

pub rooms_of-set_same : (files : List Stored) (i : ℕ) (file next : Stored) → slice_get files i ≡ Some file → next.name ≡ file.name → next.room ≡ file.room
    → rooms_of (set files i next) ≡ rooms_of files
rooms_of-set_same files i file next here same room =
    same_name_map (rooms_of (set files i next)) (rooms_of files) (get-set_same rooms_of (λ f. Some f.room) rooms-none rooms-more files i file next here same (ap Some room))

pub rooms_of-set : (files : List Stored) (i : ℕ) (file next : Stored) → IsDistinct files → slice_get files i ≡ Some file → next.name ≡ file.name
    → rooms_of (set files i next) ≡ insert (rooms_of files) file.name next.room
rooms_of-set files i file next distinct here same =
    same_name_map (rooms_of (set files i next)) (insert (rooms_of files) file.name next.room) (λ q.
    get-set rooms_of (λ f. Some f.room) rooms-none rooms-more files i file next next.room distinct here same refl q
    ∙ sym (get-inserted (rooms_of files) file.name next.room q))

pub rooms_of-push : (files : List Stored) (file : Stored) → AllOther file.name files → rooms_of (files ++ file ∷ []) ≡ insert (rooms_of files) file.name file.room
rooms_of-push files file others =
    same_name_map (rooms_of (files ++ file ∷ [])) (insert (rooms_of files) file.name file.room) (λ q.
    get-push rooms_of (λ f. Some f.room) rooms-none rooms-more files file others q
    ∙ sym (get-inserted (rooms_of files) file.name file.room q))
