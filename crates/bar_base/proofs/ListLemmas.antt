-- Lists: read from the front, joined, and searched for a first item.
use Rattle.std.proofs.Common.{◌≡◌, ℕ, zero, suc, ◌+◌, ◌<◌, ◌≤◌, ◌&&◌, Bool, true, false, not, cond, List, [], ◌∷◌, ◌++◌, length, take, drop, Some, None, refl, sym, ap, ◌∙◌, inl, inr, arith, add-one}
use Rattle.std.specs.List.{slice_get, position, position_or_len, list_all}
use Rattle.std.proofs.lemmas.Bool.{cases_lt, lt-ltb, le-ltb}
use Rattle.std.proofs.Math.Seq.{take-suc, drop-cons}
use Rattle.std.proofs.lemmas.Option.{slice_get_within, get_or_from_slice_get}

-- one item more from the front
pub take_next : {A : Type 0} (xs : List A) (i : ℕ) (x : A) → slice_get xs i ≡ Some x → take (i + 1) xs ≡ take i xs ++ x ∷ []
take_next xs i x here =
    rw (add-one i, take-suc xs i x (slice_get_within xs i x here), get_or_from_slice_get xs i x x here) refl

-- the rest begins with the item at its place
pub drop_here : {A : Type 0} (xs : List A) (i : ℕ) (x : A) → slice_get xs i ≡ Some x → drop i xs ≡ x ∷ drop (i + 1) xs
drop_here xs i x here =
    rw (add-one i, drop-cons xs i x (slice_get_within xs i x here), get_or_from_slice_get xs i x x here) refl

-- an item of joined lists is one of the first
pub slice_get-append_left : {X : Type 0} (xs ys : List X) (i : ℕ) → i < length xs → slice_get (xs ++ ys) i ≡ slice_get xs i
slice_get-append_left [] ys i inside = absurd (omega (arith, inside))
slice_get-append_left (x ∷ xs) ys zero inside = refl
slice_get-append_left (x ∷ xs) ys (suc i) inside = slice_get-append_left xs ys i (omega (arith, inside))

-- or one of the second
pub slice_get-append_right : {X : Type 0} (xs ys : List X) (i : ℕ) → slice_get (xs ++ ys) (length xs + i) ≡ slice_get ys i
slice_get-append_right [] ys i = ap (slice_get ys) (let e : 0 + i ≡ i = omega arith in e)
slice_get-append_right (x ∷ xs) ys i =
    ap (slice_get (x ∷ (xs ++ ys))) (let e : suc (length xs) + i ≡ suc (length xs + i) = omega arith in e) ∙ slice_get-append_right xs ys i

-- the first place that passes is inside or at the end
pub position_or_len-within : {X : Type 0} (p : X → Bool) (xs : List X) → position_or_len p xs ≤ length xs
position_or_len-within p [] = omega arith
position_or_len-within p (x ∷ xs) =
    let rest = position_or_len-within p xs in
    elim (p x) as (λ b. cond (not b) (1 + position_or_len p xs) 0 ≤ length (x ∷ xs)) [ true ↦ omega arith | false ↦ omega arith ]

-- where no place passes, the search comes to the end
position-past : {X : Type 0} (p : X → Bool) (xs : List X) → position p xs ≡ None → length xs ≡ position_or_len p xs
position-past p xs none =
    let within = position_or_len-within p xs in
    elim (cases_lt (position_or_len p xs) (length xs)) [
      | inl below ↦ let k = position_or_len p xs in let e : Some k ≡ None = ap (λ b. cond b (Some k) None) (sym (lt-ltb k (length xs) below)) ∙ none in cc
      | inr past ↦ omega arith
    ]

past-all : {X : Type 0} (p : X → Bool) (xs : List X) → length xs ≡ position_or_len p xs → list_all (λ x. not (p x)) xs ≡ true
past-all p [] past = refl
past-all p (x ∷ xs) past = elim (p x) as (λ t. length (x ∷ xs) ≡ cond (not t) (1 + position_or_len p xs) 0 → (not t && list_all (λ y. not (p y)) xs) ≡ true) [
  | true ↦ λ e. absurd (omega arith)
  | false ↦ λ e. past-all p xs (omega arith)
] past

-- where no place passes, no item does
pub position-none : {X : Type 0} (p : X → Bool) (xs : List X) → position p xs ≡ None → list_all (λ x. not (p x)) xs ≡ true
position-none p xs none = past-all p xs (position-past p xs none)

-- where all pass one test, and each that does passes another, all pass the other
pub list_all-weaker : {X : Type 0} (p q : X → Bool) → ((x : X) → p x ≡ true → q x ≡ true) → (xs : List X) → list_all p xs ≡ true → list_all q xs ≡ true
list_all-weaker p q so [] all = refl
list_all-weaker p q so (x ∷ xs) all = elim (p x) as (λ t. p x ≡ t → (t && list_all p xs) ≡ true → (q x && list_all q xs) ≡ true) [
  | true ↦ λ e rest. ap (λ t. t && list_all q xs) (so x e) ∙ list_all-weaker p q so xs rest
  | false ↦ λ _ e. cc
] refl all

all-past : {X : Type 0} (p : X → Bool) (xs : List X) → list_all (λ x. not (p x)) xs ≡ true → position_or_len p xs ≡ length xs
all-past p [] all = refl
all-past p (x ∷ xs) all = elim (p x) as (λ t. (not t && list_all (λ y. not (p y)) xs) ≡ true → cond (not t) (1 + position_or_len p xs) 0 ≡ length (x ∷ xs)) [
  | true ↦ λ e. cc
  | false ↦ λ e. omega (arith, all-past p xs e)
] all

-- where no item passes, no place does
pub position-none_back : {X : Type 0} (p : X → Bool) (xs : List X) → list_all (λ x. not (p x)) xs ≡ true → position p xs ≡ None
position-none_back p xs all =
    let past = all-past p xs all in
    ap (λ b. cond b (Some (position_or_len p xs)) None) (le-ltb (position_or_len p xs) (length xs) (omega arith))
