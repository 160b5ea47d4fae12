-- parts of lists: what they hold, and lists of which a part was written
use Rattle.std.proofs.Common.{◌≡◌, ℕ, zero, suc, true, false, rules, ◌+◌, ◌-◌, ◌<◌, ◌≤◌, List, [], ◌∷◌, ◌++◌, length, get_or, set, length-append, take, drop, refl, ap, ◌∙◌, append-nil, arith}
use Rattle.std.proofs.lemmas.List.{take_all, drop_all, length-drop}
use Rattle.std.specs.Bool.{◌==◌}
use borrow.Rule.Slice.PartMut.{put_mid, mid_of}

-- what a test for a length of 0 tells
pub some_from : (n : ℕ) → (n == 0) ≡ false → 0 < n
some_from zero is = absurd (search (rules, is))
some_from (suc n) is = omega arith

pub none_from : (n : ℕ) → (n == 0) ≡ true → n ≡ 0
none_from zero is = refl
none_from (suc n) is = absurd (search (rules, is))

pub put_mid-is : {X : Type 0} (a k : ℕ) (xs ys : List X) → put_mid a k xs ys ≡ take a xs ++ (ys ++ drop k (drop a xs))
put_mid-is a k xs ys = refl

-- the part is all from a place on
pub put_rest : {X : Type 0} (a k : ℕ) (xs ys : List X) → length xs ≤ a + k → put_mid a k xs ys ≡ take a xs ++ ys
put_rest a k xs ys past =
    let none : drop k (drop a xs) ≡ [] = drop_all k (drop a xs) (let e : length (drop a xs) ≡ length xs - a = length-drop a xs in omega (arith, e)) in
    put_mid-is a k xs ys ∙ ap (λ l. take a xs ++ (ys ++ l)) none ∙ ap (λ l. take a xs ++ l) (append-nil ys)

-- the part is all up to a place
pub put_front : {X : Type 0} (k : ℕ) (xs ys : List X) → put_mid 0 k xs ys ≡ ys ++ drop k xs
put_front k xs ys = refl

-- what the part held
pub rest_of : {X : Type 0} (a k : ℕ) (xs : List X) → length xs ≤ a + k → mid_of a k xs ≡ drop a xs
rest_of a k xs past = take_all k (drop a xs) (let e : length (drop a xs) ≡ length xs - a = length-drop a xs in omega (arith, e))

length-take_1 : {X : Type 0} (xs : List X) → 0 < length xs → length (take 1 xs) ≡ 1
length-take_1 [] some = absurd (omega arith)
length-take_1 (x ∷ xs) some = refl

drop_first : {X : Type 0} (xs ys : List X) → 0 < length xs → drop 1 (take 1 xs ++ ys) ≡ ys
drop_first [] ys some = absurd (omega arith)
drop_first (x ∷ xs) ys some = refl

set_head : {X : Type 0} (xs ys : List X) (v : X) → 0 < length xs → set (take 1 xs ++ ys) 0 v ≡ v ∷ ys
set_head [] ys v some = absurd (omega arith)
set_head (x ∷ xs) ys v some = refl

-- all but the first element was written
module _ {X : Type 0} (xs ys : List X) (some : 0 < length xs) (long : length ys + 1 ≡ length xs) where
  first_kept : length (take 1 xs) ≡ 1
  first_kept = length-take_1 xs some

  pub written : put_mid 1 (length xs - 1) xs ys ≡ take 1 xs ++ ys
  written = put_rest 1 (length xs - 1) xs ys (omega arith)

  pub length-written : length (put_mid 1 (length xs - 1) xs ys) ≡ length xs
  length-written = ap length written ∙ length-append (take 1 xs) ys ∙ (let e : length (take 1 xs) ≡ 1 = first_kept in omega (arith, e, long))

  pub read_back : take (length (put_mid 1 (length xs - 1) xs ys) - 1) (drop 1 (put_mid 1 (length xs - 1) xs ys)) ≡ ys
  read_back =
      rest_of 1 (length (put_mid 1 (length xs - 1) xs ys) - 1) (put_mid 1 (length xs - 1) xs ys) (omega arith) ∙
      ap (drop 1) written ∙ drop_first xs ys some

  pub set_first : (v : X) → set (put_mid 1 (length xs - 1) xs ys) 0 v ≡ v ∷ ys
  set_first v = ap (λ l. set l 0 v) written ∙ set_head xs ys v some

-- a list is its front and its last element
take_last : {A : Type 0} (list : List A) (n : ℕ) (x : A) → n < length list → take (suc n) list ≡ take n list ++ get_or list n x ∷ []
take_last [] n x within = absurd (omega arith)
take_last (y ∷ list) zero x within = refl
take_last (y ∷ list) (suc n) x within = ap (λ l. y ∷ l) (take_last list n x (omega arith))

pub front_and_last : {A : Type 0} (list : List A) (n : ℕ) (x : A) → 0 < n → n ≤ length list → take n list ≡ take (n - 1) list ++ get_or list (n - 1) x ∷ []
front_and_last list n x some within =
    let e : n ≡ suc (n - 1) = omega arith in
    ap (λ (k : ℕ). take k list) e ∙ take_last list (n - 1) x (omega arith)

pub take_front : {A : Type 0} (p q : List A) (n : ℕ) → n ≤ length p → take n (p ++ q) ≡ take n p
take_front p q zero within = refl
take_front [] q (suc n) within = absurd (omega arith)
take_front (x ∷ p) q (suc n) within = ap (λ l. x ∷ l) (take_front p q n (omega arith))

pub taken_most : {A : Type 0} (p : List A) (n : ℕ) → length (take n p) ≤ n
taken_most p zero = omega arith
taken_most [] (suc n) = omega arith
taken_most (x ∷ p) (suc n) = let e : length (take n p) ≤ n = taken_most p n in omega arith

pub taken_all : {A : Type 0} (p : List A) (n : ℕ) → n ≤ length p → length (take n p) ≡ n
taken_all p zero within = refl
taken_all [] (suc n) within = absurd (omega arith)
taken_all (x ∷ p) (suc n) within = ap suc (taken_all p n (omega arith))

pub taken_least : {A : Type 0} (p : List A) (n least : ℕ) → least < n → least < length p → least < length (take n p)
taken_least p zero least a b = absurd (omega arith)
taken_least [] (suc n) least a b = absurd (omega arith)
taken_least (x ∷ p) (suc n) zero a b = omega arith
taken_least (x ∷ p) (suc n) (suc least) a b = let e : least < length (take n p) = taken_least p n least (omega arith) (omega arith) in omega arith
