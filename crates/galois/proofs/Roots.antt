-- a polynomial with as many roots as coefficients is nought
use Rattle.std.proofs.Common.{◌≡◌, ◌≢◌, ℕ, zero, suc, ◌+◌, ◌<◌, ◌≤◌, sym, ◌∙◌, ap, refl, arith, List, [], ◌∷◌, length, replicate, reverse, Bool, true, false, if◌then◌else◌, add-one}
use Rattle.std.specs.Bool.{Decides}
use Rattle.std.proofs.lemmas.Grind.{reverse_onto}
use Rattle.galois.specs.Field.{IsField}
use Rattle.galois.specs.CheckWord.{weighted_sum}
use Rattle.galois.specs.Coefficients.{coefficients_value}
use Rattle.galois.proofs.Sums.{nought_add, add_nought, add_self, add_again, add_comm, add_assoc, add_left, mul_nought, mul_unit, mul_comm, mul_left, distributes, mul_cancel, sum_nonzero, raised, same_weights, scaled_weights, weighted_sum-append}

-- The quotient of a polynomial by x less r is this of the polynomial without its constant: the values at r of its ends.
unfoldable pub quotient : {A : Type 0} (nought : A) (plus times : A → A → A) (r : A) → List A → List A
quotient nought plus times r [] = []
quotient nought plus times r (b ∷ p) = coefficients_value nought plus times (b ∷ p) r ∷ quotient nought plus times r p

module _ {A : Type 0} {nought unit : A} {plus times : A → A → A} {inverse : A → A} {power : ℕ → A} {order : ℕ} (laws : IsField nought unit plus times inverse power order) where
  length-quotient : (r : A) (p : List A) → length (quotient nought plus times r p) ≡ length p
  unfolding quotient
  length-quotient r [] = refl
  length-quotient r (b ∷ p) = ap suc (length-quotient r p)

  division_step : (b x r v w : A) →
      plus (times x (plus b (times x v))) (times r (plus b (times r w))) ≡
      plus (times (plus x r) (plus b (times r w))) (times x (plus (times x v) (times r w)))
  division_step b x r v w =
      simp (add_again laws, add_comm laws, add_assoc laws, add_left laws, mul_comm laws, mul_left laws, distributes laws)

  quotient_value : (x r : A) (p : List A) →
      plus (times x (coefficients_value nought plus times p x)) (times r (coefficients_value nought plus times p r)) ≡
      times (plus x r) (coefficients_value nought plus times (quotient nought plus times r p) x)
  unfolding coefficients_value quotient
  quotient_value x r [] = simp (mul_nought laws, nought_add laws)
  quotient_value x r (b ∷ p) =
      division_step b x r (coefficients_value nought plus times p x) (coefficients_value nought plus times p r) ∙
      rw (quotient_value x r p) (simp (mul_left laws, distributes laws))

  -- a root other than r is one of the quotient too
  other_root : (a x r : A) (p : List A) → x ≢ r →
      coefficients_value nought plus times (a ∷ p) x ≡ nought → coefficients_value nought plus times (a ∷ p) r ≡ nought →
      coefficients_value nought plus times (quotient nought plus times r p) x ≡ nought
  unfolding coefficients_value
  other_root a x r p different at_x at_r =
      let v : A = times x (coefficients_value nought plus times p x) in
      let w : A = times r (coefficients_value nought plus times p r) in
      let same : v ≡ w = sym (add_again laws a v) ∙ ap (plus a) (at_x ∙ sym at_r) ∙ add_again laws a w in
      let product : times (coefficients_value nought plus times (quotient nought plus times r p) x) (plus x r) ≡ nought =
      mul_comm laws (coefficients_value nought plus times (quotient nought plus times r p) x) (plus x r) ∙
      sym (quotient_value x r p) ∙ ap (λ y. plus y w) same ∙ add_self laws w in
      mul_cancel laws (coefficients_value nought plus times (quotient nought plus times r p) x) (plus x r) (sum_nonzero laws x r different) product

  noughts_value : (n : ℕ) (x : A) → coefficients_value nought plus times (replicate n nought) x ≡ nought
  unfolding coefficients_value
  noughts_value zero x = refl
  noughts_value (suc n) x = rw (noughts_value n x) (simp (mul_nought laws, nought_add laws))

  -- a constant before noughts is nought where the value is
  constant_nought : (a r : A) (p : List A) → p ≡ replicate (length p) nought → coefficients_value nought plus times (a ∷ p) r ≡ nought → a ≡ nought
  unfolding coefficients_value
  constant_nought a r p rest value =
      let none : coefficients_value nought plus times p r ≡ nought = rw rest (noughts_value (length p) r) in
      simp (mul_nought laws, add_nought laws) at (rw none at value)

  quotient_noughts : (r : A) (p : List A) → quotient nought plus times r p ≡ replicate (length p) nought → p ≡ replicate (length p) nought
  unfolding quotient
  quotient_noughts r [] noughts = refl
  quotient_noughts r (b ∷ p) noughts =
      let head : coefficients_value nought plus times (b ∷ p) r ≡ nought = cc noughts in
      let tails : quotient nought plus times r p ≡ replicate (length p) nought = cc noughts in
      let rest : p ≡ replicate (length p) nought = quotient_noughts r p tails in
      ap (λ x. x ∷ p) (constant_nought b r p rest head) ∙ ap (λ l. nought ∷ l) rest

  module _ (equal : A → A → Bool) (decides : (a b : A) → Decides (equal a b) (a ≡ b)) (place : ℕ → A) where
    -- how many of the first places are roots
    unfoldable pub roots_below : List A → ℕ → ℕ
    roots_below p zero = 0
    roots_below p (suc n) = (if equal (coefficients_value nought plus times p (place n)) nought then 1 else 0) + roots_below p n

    still_root : (a b : A) (r s : Bool) → equal a nought ≡ r → equal b nought ≡ s → (a ≡ nought → b ≡ nought) → (if r then 1 else 0) ≤ (if s then 1 else 0)
    still_root a b true true is_a is_b kept = omega arith
    still_root a b false true is_a is_b kept = omega arith
    still_root a b false false is_a is_b kept = omega arith
    still_root a b true false is_a is_b kept =
        let contrary : false ≡ true = sym is_b ∙ (decides b nought).1 (kept ((decides a nought).0 is_a)) in (cc)

    still_roots : (p q : List A) (n : ℕ) →
        ((m : ℕ) → m < n → coefficients_value nought plus times p (place m) ≡ nought → coefficients_value nought plus times q (place m) ≡ nought) →
        roots_below p n ≤ roots_below q n
    unfolding roots_below
    still_roots p q zero kept = omega arith
    still_roots p q (suc n) kept =
        let fewer : roots_below p n ≤ roots_below q n = still_roots p q n (λ m below. kept m (omega arith)) in
        let here : (if equal (coefficients_value nought plus times p (place n)) nought then 1 else 0) ≤ (if equal (coefficients_value nought plus times q (place n)) nought then 1 else 0) =
        still_root (coefficients_value nought plus times p (place n)) (coefficients_value nought plus times q (place n)) _ _ refl refl (kept n (omega arith)) in
        omega arith

    one_root_more : (n : ℕ) (a : A) (p : List A) (b : Bool) → equal (coefficients_value nought plus times (a ∷ p) (place n)) nought ≡ b →
        ((i j : ℕ) → i < suc n → j < suc n → place i ≡ place j → i ≡ j) →
        ((q : List A) → length q ≤ roots_below q n → q ≡ replicate (length q) nought) →
        suc (length p) ≤ roots_below (a ∷ p) (suc n) → a ∷ p ≡ nought ∷ replicate (length p) nought
    unfolding roots_below
    one_root_more n a p true is distinct fewer many =
        let root : coefficients_value nought plus times (a ∷ p) (place n) ≡ nought = (decides _ nought).0 is in
        let count : roots_below (a ∷ p) (suc n) ≡ 1 + roots_below (a ∷ p) n = ap (λ t. (if t then 1 else 0) + roots_below (a ∷ p) n) is in
        let kept : roots_below (a ∷ p) n ≤ roots_below (quotient nought plus times (place n) p) n =
        still_roots (a ∷ p) (quotient nought plus times (place n) p) n (λ m below at_m.
        other_root a (place m) (place n) p (λ same. let contrary : m ≡ n = distinct m n (omega arith) (omega arith) same in absurd (omega arith)) at_m root) in
        let long : length (quotient nought plus times (place n) p) ≡ length p = length-quotient (place n) p in
        let noughts : quotient nought plus times (place n) p ≡ replicate (length (quotient nought plus times (place n) p)) nought =
        fewer (quotient nought plus times (place n) p) (omega arith) in
        let rest : p ≡ replicate (length p) nought = quotient_noughts (place n) p (noughts ∙ ap (λ l. replicate l nought) long) in
        ap (λ x. x ∷ p) (constant_nought a (place n) p rest root) ∙ ap (λ l. nought ∷ l) rest
    one_root_more n a p false is distinct fewer many =
        let count : roots_below (a ∷ p) (suc n) ≡ 0 + roots_below (a ∷ p) n = ap (λ t. (if t then 1 else 0) + roots_below (a ∷ p) n) is in
        fewer (a ∷ p) (omega arith)

    -- places all different: as many roots among them as there are coefficients are had by noughts alone
    pub many_roots : (n : ℕ) (p : List A) → ((i j : ℕ) → i < n → j < n → place i ≡ place j → i ≡ j) →
        length p ≤ roots_below p n → p ≡ replicate (length p) nought
    unfolding roots_below
    many_roots n [] distinct many = refl
    many_roots zero (a ∷ p) distinct many = absurd (omega arith)
    many_roots (suc n) (a ∷ p) distinct many =
        one_root_more n a p (equal (coefficients_value nought plus times (a ∷ p) (place n)) nought) refl distinct
        (λ q. many_roots n q (λ i j a b. distinct i j (omega arith) (omega arith))) many

  -- read from the other end, a polynomial is a word
  pub weighted_sum-reverse : (x : A) (p : List A) → weighted_sum nought plus times (raised unit times x) (reverse p) ≡ coefficients_value nought plus times p x
  unfolding weighted_sum coefficients_value raised
  weighted_sum-reverse x [] = refl
  weighted_sum-reverse x (b ∷ p) =
      rw (reverse_onto p b []) (weighted_sum-append laws (raised unit times x) (reverse p) (b ∷ []) ∙
      ap (plus (weighted_sum nought plus times (λ m. raised unit times x (m + 1)) (reverse p))) (simp (mul_unit laws, add_nought laws)) ∙
      ap (λ y. plus y b) (same_weights laws (λ m. raised unit times x (m + 1)) (λ m. times x (raised unit times x m)) (reverse p) (λ m _. rw (add-one m) refl) ∙
      scaled_weights laws x (raised unit times x) (reverse p)) ∙
      rw (weighted_sum-reverse x p) (add_comm laws (times x (coefficients_value nought plus times p x)) b))
