-- a locator whose product with the moments of a word vanishes far enough vanishes at each place whose element is not nought
use Rattle.std.proofs.Common.{◌≡◌, ◌≢◌, ℕ, zero, suc, ◌+◌, ◌<◌, ◌≤◌, sym, ◌∙◌, ap, refl, arith, List, [], ◌∷◌, length, replicate, Bool, true, false, not, cond, add-zero, add-suc}
use Rattle.std.specs.List.{count_by}
use Rattle.std.specs.Bool.{Decides}
use Rattle.std.proofs.lemmas.List.Sums.{sum_by-cons}
use Rattle.galois.specs.Field.{IsField}
use Rattle.galois.specs.CheckWord.{weighted_sum}
use Rattle.galois.specs.Locator.{VanishesAt, nowhere, here_too, scaled_word}
use Rattle.galois.proofs.Sums.{nought_add, mul_nought, nought_mul, mul_unit, mul_comm, mul_assoc, mul_left, mul_cancel, raised, same_weights, sum_of_weights, scaled_weights}
use Rattle.galois.proofs.Moments.{moments_vanish}

module _ {A : Type 0} {nought unit : A} {plus times : A → A → A} {inverse : A → A} {power : ℕ → A} {order : ℕ} (laws : IsField nought unit plus times inverse power order) where
  pub length-scaled_word : (factor : ℕ → A) (w : List A) → length (scaled_word times factor w) ≡ length w
  unfolding scaled_word
  length-scaled_word factor [] = refl
  length-scaled_word factor (x ∷ w) = ap suc (length-scaled_word factor w)

  pub weighted_sum-scaled_word : (factor f : ℕ → A) (w : List A) →
      weighted_sum nought plus times f (scaled_word times factor w) ≡ weighted_sum nought plus times (λ m. times (factor m) (f m)) w
  unfolding weighted_sum scaled_word
  weighted_sum-scaled_word factor f [] = refl
  weighted_sum-scaled_word factor f (x ∷ w) =
      rw (weighted_sum-scaled_word factor f w, length-scaled_word factor w, mul_assoc laws x (factor (length w)) (f (length w))) refl

  no_weights : (w : List A) → weighted_sum nought plus times (λ _. nought) w ≡ nought
  unfolding weighted_sum
  no_weights [] = refl
  no_weights (x ∷ w) = rw (no_weights w) (simp (mul_nought laws, nought_add laws))

  -- a sum of sums, the other way round
  pub exchanged : (f : ℕ → ℕ → A) (v w : List A) →
      weighted_sum nought plus times (λ j. weighted_sum nought plus times (f j) w) v ≡
      weighted_sum nought plus times (λ m. weighted_sum nought plus times (λ j. f j m) v) w
  unfolding weighted_sum
  exchanged f [] w = sym (no_weights w)
  exchanged f (x ∷ v) w =
      ap (plus (times x (weighted_sum nought plus times (f (length v)) w))) (exchanged f v w) ∙
      ap (λ y. plus y (weighted_sum nought plus times (λ m. weighted_sum nought plus times (λ j. f j m) v) w)) (sym (scaled_weights laws x (f (length v)) w)) ∙
      sym (sum_of_weights laws (λ m. times x (f (length v) m)) (λ m. weighted_sum nought plus times (λ j. f j m) v) w)

  pub raised_add : (x : A) (i j : ℕ) → raised unit times x (i + j) ≡ times (raised unit times x i) (raised unit times x j)
  unfolding raised
  raised_add x i zero = rw (add-zero i) (sym (mul_unit laws (raised unit times x i)))
  raised_add x i (suc j) = rw (add-suc i j, raised_add x i j) (mul_left laws x (raised unit times x i) (raised unit times x j))

  -- a coefficient of the product of the locator and the moments is a moment, weighed anew by the locator
  product_moment : (place weight : ℕ → A) (locator w : List A) (k : ℕ) →
      weighted_sum nought plus times (λ j. weighted_sum nought plus times (λ m. times (weight m) (raised unit times (place m) (k + j))) w) locator ≡
      weighted_sum nought plus times (λ m. times (weighted_sum nought plus times (raised unit times (place m)) locator) (times (weight m) (raised unit times (place m) k))) w
  product_moment place weight locator w k =
      exchanged (λ j m. times (weight m) (raised unit times (place m) (k + j))) locator w ∙
      same_weights laws _ _ w (λ m _.
      same_weights laws _ (λ j. times (times (weight m) (raised unit times (place m) k)) (raised unit times (place m) j)) locator
      (λ j _. rw (raised_add (place m) k j) (sym (mul_assoc laws (weight m) (raised unit times (place m) k) (raised unit times (place m) j)))) ∙
      scaled_weights laws (times (weight m) (raised unit times (place m) k)) (raised unit times (place m)) locator ∙
      mul_comm laws (times (weight m) (raised unit times (place m) k)) (weighted_sum nought plus times (raised unit times (place m)) locator))

  vanishing : (factor : ℕ → A) (w : List A) → scaled_word times factor w ≡ replicate (length w) nought → VanishesAt nought factor w
  unfolding scaled_word
  vanishing factor [] noughts = nowhere
  vanishing factor (x ∷ w) noughts =
      let head : times x (factor (length w)) ≡ nought = cc noughts in
      let tails : scaled_word times factor w ≡ replicate (length w) nought = cc noughts in
      here_too (λ nonzero. mul_cancel laws (factor (length w)) x nonzero (mul_comm laws (factor (length w)) x ∙ head)) (vanishing factor w tails)

  module _ (equal : A → A → Bool) (decides : (a b : A) → Decides (equal a b) (a ≡ b)) where
    one_fewer : (a b : A) (r s : Bool) → equal a nought ≡ r → equal b nought ≡ s → (b ≡ nought → a ≡ nought) → cond (not r) 1 0 ≤ cond (not s) 1 0
    one_fewer a b true true is_a is_b kept = omega arith
    one_fewer a b true false is_a is_b kept = omega arith
    one_fewer a b false false is_a is_b kept = omega arith
    one_fewer a b false true is_a is_b kept =
        let contrary : false ≡ true = sym is_a ∙ (decides a nought).1 (kept ((decides b nought).0 is_b)) in (cc)

    pub scaled_fewer : (factor : ℕ → A) (w : List A) → count_by (λ x. not (equal x nought)) (scaled_word times factor w) ≤ count_by (λ x. not (equal x nought)) w
    unfolding scaled_word
    scaled_fewer factor [] = omega arith
    scaled_fewer factor (x ∷ w) =
        let scaled : A = times x (factor (length w)) in
        let tails : count_by (λ x. not (equal x nought)) (scaled_word times factor w) ≤ count_by (λ x. not (equal x nought)) w = scaled_fewer factor w in
        let heads : cond (not (equal scaled nought)) 1 0 ≤ cond (not (equal x nought)) 1 0 =
        one_fewer scaled x (equal scaled nought) (equal x nought) refl refl (λ is. rw is (nought_mul laws (factor (length w)))) in
        let before : _ = sum_by-cons (λ x. cond (not (equal x nought)) 1 0) scaled (scaled_word times factor w) in
        let after : _ = sum_by-cons (λ x. cond (not (equal x nought)) 1 0) x w in
        omega (arith, before, after)

    -- places all different, weights that are not nought, and a word with no more than `n` elements that are not
    -- nought: where n coefficients of the product of the locator and the moments vanish, from that of the locator's
    -- degree on, the locator vanishes at each place whose element is not nought
    pub key_equation : (place weight : ℕ → A) (locator w : List A) (n : ℕ) →
        ((i j : ℕ) → i < length w → j < length w → place i ≡ place j → i ≡ j) →
        ((i : ℕ) → i < length w → weight i ≢ nought) →
        count_by (λ x. not (equal x nought)) w ≤ n →
        ((k : ℕ) → k < n → weighted_sum nought plus times (λ j. weighted_sum nought plus times (λ m. times (weight m) (raised unit times (place m) (k + j))) w) locator ≡ nought) →
        VanishesAt nought (λ m. weighted_sum nought plus times (raised unit times (place m)) locator) w
    key_equation place weight locator w n distinct nonzero few products =
        let factor : ℕ → A = λ m. weighted_sum nought plus times (raised unit times (place m)) locator in
        let long : length (scaled_word times factor w) ≡ length w = length-scaled_word factor w in
        let fewer : count_by (λ x. not (equal x nought)) (scaled_word times factor w) ≤ n =
        let le : _ = scaled_fewer factor w in omega (arith, le) in
        let noughts : scaled_word times factor w ≡ replicate (length (scaled_word times factor w)) nought =
        moments_vanish laws equal decides place (scaled_word times factor w) weight n
        (λ i j a b. distinct i j (omega arith) (omega arith)) (λ i a. nonzero i (omega arith)) fewer
        (λ k below. weighted_sum-scaled_word factor (λ m. times (weight m) (raised unit times (place m) k)) w ∙ sym (product_moment place weight locator w k) ∙ products k below) in
        vanishing factor w (noughts ∙ ap (λ l. replicate l nought) long)
