-- Maps from names, as in a list of items with a name each.
use Rattle.std.proofs.Common.{◌≡◌, ◌≢◌, ℕ, Bool, true, false, cond, List, None, Some, refl, sym, ap, ◌∙◌}
use Rattle.std.specs.Ordering.{nat_cmp}
use Rattle.std.specs.Str.{bytes_eq}
use Rattle.std.specs.Cmp.Lexicographic.{slice_cmp, nat_list_cmp_total, texts_ties}
use Rattle.std.specs.FinMap.{FinMap, get, insert, remove, get-insert, get-remove, same_map, slice_cmp-IsAntisymmetric, nat_cmp-IsAntisymmetric}
use Rattle.std.proofs.lemmas.Slice.Eq.{bytes_eq-Decides}
use Rattle.std.proofs.lemmas.Bool.{false_from_ne_true}

-- a map from names
abbrev pub NameMap : Type 0 → Type 0
NameMap X = FinMap (slice_cmp nat_cmp) X

module _ {X : Type 0} where
  -- what is under a name after it was set
  pub get-inserted : (m : NameMap X) (name : List ℕ) (x : X) (q : List ℕ) → get (insert m name x) q ≡ cond (bytes_eq q name) (Some x) (get m q)
  get-inserted m name x q = get-insert nat_list_cmp_total m name x q ∙ ap (λ b. cond b (Some x) (get m q)) (sym (texts_ties q name))

  -- what is under a name after one was removed
  pub get-removed : (m : NameMap X) (name q : List ℕ) → get (remove m name) q ≡ cond (bytes_eq q name) None (get m q)
  get-removed m name q = get-remove nat_list_cmp_total m name q ∙ ap (λ b. cond b None (get m q)) (sym (texts_ties q name))

  -- maps with the same answers are the same
  pub same_name_map : (m n : NameMap X) → ((q : List ℕ) → get m q ≡ get n q) → m ≡ n
  same_name_map m n same = same_map nat_list_cmp_total (slice_cmp-IsAntisymmetric nat_cmp-IsAntisymmetric) m n same

-- a test that is made twice
pub twice : {A : Type 0} (b : Bool) (x y z : A) → cond b x (cond b y z) ≡ cond b x z
twice true x y z = refl
twice false x y z = refl

-- a name is itself
pub bytes_eq-same : (name : List ℕ) → bytes_eq name name ≡ true
bytes_eq-same name = (bytes_eq-Decides name name).1 refl

-- names that differ
pub bytes_eq-other : (a b : List ℕ) → a ≢ b → bytes_eq a b ≡ false
bytes_eq-other a b differ = false_from_ne_true (bytes_eq a b) (λ same. differ ((bytes_eq-Decides a b).0 same))

module _ {X : Type 0} where
  -- what was set under a name is found there
  pub get-inserted_same : (m : NameMap X) (name : List ℕ) (x : X) → get (insert m name x) name ≡ Some x
  get-inserted_same m name x = get-inserted m name x name ∙ ap (λ b. cond b (Some x) (get m name)) (bytes_eq-same name)

  -- once a name is removed, what was set there does not matter
  pub remove-inserted : (m : NameMap X) (name : List ℕ) (x : X) → remove (insert m name x) name ≡ remove m name
  remove-inserted m name x = same_name_map (remove (insert m name x) name) (remove m name) (λ q.
      get-removed (insert m name x) name q ∙ ap (cond (bytes_eq q name) None) (get-inserted m name x q)
      ∙ twice (bytes_eq q name) None (Some x) (get m q) ∙ sym (get-removed m name q))
