-- check words of one length differ at more places than they have check elements
use Rattle.std.proofs.Common.{◌≡◌, ℕ, suc, ◌+◌, ◌*◌, ◌<◌, ◌≤◌, sym, ◌∙◌, ap, refl, arith, List, [], ◌∷◌, ◌++◌, length, replicate, Bool, true, false, not, cond, if◌then◌else◌, zero-add, zero-le}
use Rattle.std.specs.List.{count_by}
use Rattle.std.proofs.lemmas.List.{length-append, append_cancel_left}
use Rattle.std.proofs.lemmas.List.Sums.{sum_by-cons}
use Rattle.std.specs.Bool.{Decides}
use Rattle.std.proofs.lemmas.Bool.Decides.{same_from_decides}
use Rattle.galois.specs.Field.{IsField}
use Rattle.galois.specs.CheckWord.{weighted_sum, check_sum, distance, word_sum, IsCheckWord, IsNear}
use Rattle.std.proofs.Math.Nat.{mul-add, mul-zero, mul-one}
use Rattle.galois.proofs.Sums.{power_add, add_nought, mul_unit, scaled_weights, weighted_sum-append, weighted_sum-replicate, add_self, raised, raised-power, same_weights, same_from_sum, length-word_sum, weighted_sum-word_sum}
use Rattle.galois.proofs.Moments.{moments_vanish}

-- whether two elements differ, counted in either way
pub turned : (b : Bool) (n : ℕ) → cond (not b) 1 0 + n ≡ (if b then 0 else 1) + n
turned true n = refl
turned false n = refl

pub at_most_one : (b : Bool) → (if b then 0 else 1) ≤ 1
at_most_one true = omega arith
at_most_one false = omega arith

module _ {A : Type 0} {nought unit : A} {plus times : A → A → A} {inverse : A → A} {power : ℕ → A} {order : ℕ} (laws : IsField nought unit plus times inverse power order) where
  pub check_sum-append : (v w : List A) (k : ℕ) →
      check_sum nought plus times power (v ++ w) k ≡ plus (times (power (k * length w)) (check_sum nought plus times power v k)) (check_sum nought plus times power w k)
  unfolding check_sum
  check_sum-append v w k =
      let moved : (m : ℕ) → power (k * (m + length w)) ≡ times (power (k * length w)) (power (k * m)) =
      λ m. rw (mul-add k m (length w), power_add laws (k * m) (k * length w)) (laws.mul_comm (power (k * m)) (power (k * length w))) in
      weighted_sum-append laws (λ place. power (k * place)) v w ∙
      ap (λ x. plus x (weighted_sum nought plus times (λ place. power (k * place)) w))
      (same_weights laws (λ m. power (k * (m + length w))) (λ m. times (power (k * length w)) (power (k * m))) v (λ m _. moved m) ∙
      scaled_weights laws (power (k * length w)) (λ m. power (k * m)) v)

  pub check_sum-one : (x : A) (k : ℕ) → check_sum nought plus times power (x ∷ []) k ≡ x
  unfolding check_sum weighted_sum
  check_sum-one x k = rw (mul-zero k, laws.power_zero) (add_nought laws (times x unit) ∙ mul_unit laws x)

  pub check_sum-nothing : (k : ℕ) → check_sum nought plus times power [] k ≡ nought
  unfolding check_sum weighted_sum
  check_sum-nothing k = refl

  pub check_sum-noughts : (n k : ℕ) → check_sum nought plus times power (replicate n nought) k ≡ nought
  unfolding check_sum
  check_sum-noughts n k = weighted_sum-replicate laws (λ place. power (k * place)) n

  -- one element more: the polynomial times x, plus that element
  pub check_sum-next : (v : List A) (x : A) (k : ℕ) →
      check_sum nought plus times power (v ++ x ∷ []) k ≡ plus x (times (power k) (check_sum nought plus times power v k))
  check_sum-next v x k =
      check_sum-append v (x ∷ []) k ∙
      rw (check_sum-one x k, mul-one k) (laws.add_comm (times (power k) (check_sum nought plus times power v k)) x)

  pub check_sum-word_sum : (v w : List A) (k : ℕ) → length v ≡ length w →
      check_sum nought plus times power (word_sum plus v w) k ≡ plus (check_sum nought plus times power v k) (check_sum nought plus times power w k)
  unfolding check_sum
  check_sum-word_sum v w k same = weighted_sum-word_sum laws (λ place. power (k * place)) v w same

  pub same_from_noughts : (v w : List A) → length v ≡ length w → word_sum plus v w ≡ replicate (length w) nought → v ≡ w
  unfolding word_sum
  same_from_noughts [] [] same noughts = refl
  same_from_noughts [] (y ∷ w) same noughts = (cc)
  same_from_noughts (x ∷ v) [] same noughts = (cc)
  same_from_noughts (x ∷ v) (y ∷ w) same noughts =
      let head : plus x y ≡ nought = cc noughts in
      let tails : word_sum plus v w ≡ replicate (length w) nought = cc noughts in
      ap (λ z. z ∷ v) (same_from_sum laws x y head) ∙ ap (λ z. y ∷ z) (same_from_noughts v w (omega arith) tails)

  sums_vanish : (v w : List A) (k : ℕ) → length v ≡ length w →
      check_sum nought plus times power v (suc k) ≡ nought → check_sum nought plus times power w (suc k) ≡ nought →
      weighted_sum nought plus times (λ m. times (power m) (raised unit times (power m) k)) (word_sum plus v w) ≡ nought
  unfolding check_sum raised
  sums_vanish v w k same of_v of_w =
      same_weights laws (λ m. times (power m) (raised unit times (power m) k)) (λ m. power (suc k * m)) (word_sum plus v w) (λ m _. sym (raised-power laws (suc k) m)) ∙
      check_sum-word_sum v w (suc k) same ∙ rw (of_v, of_w) (add_self laws nought)

  module _ (equal : A → A → Bool) (decides : (a b : A) → Decides (equal a b) (a ≡ b)) where
    pub sum_tells : (x y : A) → equal (plus x y) nought ≡ equal x y
    sum_tells x y =
        same_from_decides {P = x ≡ y} (equal (plus x y) nought) (equal x y)
        (λ is. same_from_sum laws x y ((decides (plus x y) nought).0 is), λ same. (decides (plus x y) nought).1 (rw same (add_self laws y)))
        (decides x y)

    pub distance-word_sum : (v w : List A) → length v ≡ length w → count_by (λ x. not (equal x nought)) (word_sum plus v w) ≡ distance equal v w
    unfolding word_sum distance
    distance-word_sum [] [] same = refl
    distance-word_sum [] (y ∷ w) same = (cc)
    distance-word_sum (x ∷ v) [] same = (cc)
    distance-word_sum (x ∷ v) (y ∷ w) same =
        sum_by-cons (λ x. cond (not (equal x nought)) 1 0) (plus x y) (word_sum plus v w) ∙
        ap (λ t. cond (not t) 1 0 + count_by (λ x. not (equal x nought)) (word_sum plus v w)) (sum_tells x y) ∙
        ap (λ n. cond (not (equal x y)) 1 0 + n) (distance-word_sum v w (omega arith)) ∙ turned (equal x y) (distance equal v w)

    -- two check words of one length, no longer than the field has powers of alpha: where they differ at no more
    -- places than they have check elements, they are one
    pub same_check_word : (v w : List A) (c : ℕ) → length v ≡ length w → length w ≤ order → distance equal v w ≤ c →
        IsCheckWord nought plus times power v c → IsCheckWord nought plus times power w c → v ≡ w
    same_check_word v w c same fits near is_v is_w =
        let sums : (k : ℕ) → k < c → weighted_sum nought plus times (λ m. times (power m) (raised unit times (power m) k)) (word_sum plus v w) ≡ nought =
        λ k below. sums_vanish v w k same (is_v.root (suc k) (omega arith) (omega arith)) (is_w.root (suc k) (omega arith) (omega arith)) in
        let long : length (word_sum plus v w) ≡ length w = length-word_sum laws v w same in
        let few : count_by (λ x. not (equal x nought)) (word_sum plus v w) ≤ c = rw (distance-word_sum v w same) near in
        same_from_noughts v w same (moments_vanish laws equal decides power (word_sum plus v w) power c
        (λ i j a b same. laws.powers_distinct i j (omega arith) (omega arith) same) (λ i _. laws.power_nonzero i) few sums ∙
        ap (λ n. replicate n nought) long)

    distance-same_front : (front u v : List A) → distance equal (front ++ u) (front ++ v) ≡ distance equal u v
    unfolding distance
    distance-same_front [] u v = refl
    distance-same_front (x ∷ front) u v = rw ((decides x x).1 refl, distance-same_front front u v) (zero-add (distance equal u v))

    distance-le-length : (u v : List A) → distance equal u v ≤ length u
    unfolding distance
    distance-le-length [] v = zero-le
    distance-le-length (x ∷ u) [] = zero-le
    distance-le-length (x ∷ u) (y ∷ v) =
        let here : (if equal x y then 0 else 1) ≤ 1 = at_most_one (equal x y) in
        let there : distance equal u v ≤ length u = distance-le-length u v in omega arith

    -- what follows a front is the only such that makes a check word with it
    pub only_check : (front u v : List A) → length u ≡ length v → length front + length v ≤ order →
        IsCheckWord nought plus times power (front ++ u) (length v) → IsCheckWord nought plus times power (front ++ v) (length v) → u ≡ v
    only_check front u v same fits is_u is_v =
        let near : distance equal (front ++ u) (front ++ v) ≤ length v =
        rw (distance-same_front front u v) (let le : distance equal u v ≤ length u = distance-le-length u v in omega arith) in
        append_cancel_left front u v (same_check_word (front ++ u) (front ++ v) (length v)
        (rw (length-append front u, length-append front v) (ap (λ n. length front + n) same))
        (rw (length-append front v) fits) near is_u is_v)

    pub distance_self : (word : List A) → distance equal word word ≡ 0
    unfolding distance
    distance_self [] = refl
    distance_self (x ∷ word) = rw ((decides x x).1 refl, distance_self word) refl

    -- a check word is near itself, and no other is near it
    pub near_itself : (word : List A) (c : ℕ) → IsCheckWord nought plus times power word c → IsNear nought plus times power equal c word word
    near_itself word c is = record { long = refl; check = is; near = let e : distance equal word word ≡ 0 = distance_self word in omega (arith, e) }

    pub near_check_word : (word other : List A) (c : ℕ) → length word ≤ order → IsCheckWord nought plus times power word c → IsNear nought plus times power equal c word other → other ≡ word
    near_check_word word other c fits is near =
        let n : 2 * distance equal word other ≤ c = near.near in
        sym (same_check_word word other c (sym near.long) (let e : length other ≡ length word = near.long in omega (arith, e)) (omega (arith, n)) is near.check)
