-- one step more of a loop over a list
use Rattle.std.proofs.Common.{◌≡◌, ℕ, zero, suc, ◌+◌, ◌<◌, ◌≤◌, sym, ◌∙◌, ap, refl, arith, List, [], ◌∷◌, ◌++◌, length, take, drop, set, get_or, append_assoc, append-nil, subst, add-one, inl, inr}
use Rattle.std.proofs.Math.Seq.{drop-cons, take-suc-set}
use Rattle.std.proofs.lemmas.Bool.{cases_eq}
use Rattle.std.proofs.lemmas.List.{drop-set-lt, take_all, drop_all, get_or-set_same, get_or-set_other}

pub rest_is : {A : Type 0} (list : List A) (i : ℕ) (x : A) → i < length list → x ≡ get_or list i x → drop i list ≡ x ∷ drop (suc i) list
rest_is list i x within is = drop-cons list i x within ∙ ap (λ z. z ∷ drop (suc i) list) (sym is)

-- a loop that changes each element, and computes the rest by a function of what is left and of something more
pub changed_step : {A S : Type 0} (f : S → List A → List A) (list : List A) (i : ℕ) (s t : S) (x v : A) → i < length list → x ≡ get_or list i x →
    f s (x ∷ drop (suc i) list) ≡ v ∷ f t (drop (suc i) list) →
    take (i + 1) (set list i v) ++ f t (drop (i + 1) (set list i v)) ≡ take i list ++ f s (drop i list)
changed_step f list i s t x v within is changed =
    let done : take (suc i) (set list i v) ++ f t (drop (suc i) (set list i v)) ≡ take i list ++ f s (drop i list) =
    rw (take-suc-set list i v within, drop-set-lt (suc i) list i v (omega arith), rest_is list i x within is, changed)
    (append_assoc (take i list) (v ∷ []) (f t (drop (suc i) list))) in
    rw (add-one i) done

pub changed_all : {A S : Type 0} (f : S → List A → List A) (list : List A) (i : ℕ) (s : S) → length list ≤ i → f s [] ≡ [] → take i list ++ f s (drop i list) ≡ list
changed_all f list i s past end = rw (take_all i list past, drop_all i list past, end) (append-nil list)

-- a loop that writes one element after another
pub written_more : {A : Type 0} (P : ℕ → A → Type 0) (old now : List A) (d : A) (k : ℕ) (v : A) → k < length now →
    ((i : ℕ) → i < k → P i (get_or now i d)) → ((i : ℕ) → k ≤ i → get_or now i d ≡ get_or old i d) → P k v →
    ((i : ℕ) → i < k + 1 → P i (get_or (set now k v) i d)) × ((i : ℕ) → k + 1 ≤ i → get_or (set now k v) i d ≡ get_or old i d)
written_more P old now d k v within done rest here = (
  λ i below. elim (cases_eq i k) [
    | inl at ↦ subst (λ (j : ℕ). P j (get_or (set now k v) j d)) (sym at) (subst (P k) (sym (get_or-set_same now k v d within)) here)
    | inr apart ↦ subst (P i) (sym (get_or-set_other now k i v d apart)) (done i (omega arith))
  ],
  λ i above. get_or-set_other now k i v d (λ e. absurd (omega arith)) ∙ rest i (omega arith),
)

pub dropped_set : {A : Type 0} (list : List A) (n : ℕ) (v : A) → n < length list → drop n (set list n v) ≡ v ∷ drop (suc n) list
dropped_set [] n v within = absurd (omega arith)
dropped_set (x ∷ list) zero v within = refl
dropped_set (x ∷ list) (suc n) v within = dropped_set list n v (omega arith)

pub take_next : {A : Type 0} (list : List A) (n : ℕ) (x : A) → n < length list → x ≡ get_or list n x → take (n + 1) list ≡ take n list ++ x ∷ []
take_next list n x within is = rw (add-one n) (go list n x within is)
  where
    go : {A : Type 0} (list : List A) (n : ℕ) (x : A) → n < length list → x ≡ get_or list n x → take (suc n) list ≡ take n list ++ x ∷ []
    go [] n x within is = absurd (omega arith)
    go (y ∷ list) zero x within is = ap (λ z. z ∷ []) (sym is)
    go (y ∷ list) (suc n) x within is = ap (λ l. y ∷ l) (go list n x (omega arith) is)
