-- a locator vanishes at each place at which the word is wrong
use Rattle.std.proofs.Common.{◌≡◌, ◌≢◌, ℕ, zero, suc, ◌+◌, ◌*◌, ◌-◌, ◌<◌, ◌≤◌, sym, ◌∙◌, refl, arith, List, [], ◌∷◌, ◌++◌, length, replicate, length-append, Bool, not}
use Rattle.std.specs.List.{count_by}
use Rattle.std.specs.Bool.{Decides}
use Rattle.std.proofs.lemmas.List.{length-replicate}
use Rattle.galois.specs.Field.{IsField}
use Rattle.galois.specs.CheckWord.{weighted_sum, check_sum}
use Rattle.galois.proofs.Sums.{add_nought, mul_comm, mul_cancel, raised, raised-power, same_weights, scaled_weights, weighted_sum-append, weighted_sum-replicate}
use Rattle.galois.proofs.KeyEquation.{key_equation, raised_add}
use Rattle.galois.specs.Coefficients.{product_coefficient}
use Rattle.galois.specs.Locator.{VanishesAt, nowhere, here_too, IsLocator, locator_value}
use Rattle.galois.proofs.Coefficients.{coefficient-noughts}

pub vanishes_too : {A : Type 0} {nought : A} (f g : ℕ → A) (word : List A) → ((m : ℕ) → f m ≡ nought → g m ≡ nought) → VanishesAt nought f word → VanishesAt nought g word
vanishes_too f g [] kept nowhere = nowhere
vanishes_too f g (x ∷ word) kept (here_too here rest) = here_too (λ some. kept (length word) (here some)) (vanishes_too f g word kept rest)

module _ {A : Type 0} {nought unit : A} {plus times : A → A → A} {inverse : A → A} {power : ℕ → A} {order : ℕ} (laws : IsField nought unit plus times inverse power order) where
  -- a coefficient of the product, read from the other end
  coefficient_weighed : (s : ℕ → A) (p : List A) (t k : ℕ) → t + 1 ≡ k + length p →
      product_coefficient nought plus times s p t ≡ weighted_sum nought plus times (λ j. s (k + j)) p
  unfolding product_coefficient weighted_sum
  coefficient_weighed s [] t k at = refl
  coefficient_weighed s (a ∷ []) zero k at = let e : k + 0 ≡ 0 = omega arith in rw e (sym (add_nought laws (times a (s 0))))
  coefficient_weighed s (a ∷ b ∷ p) zero k at = absurd (omega arith)
  coefficient_weighed s (a ∷ p) (suc t) k at =
      let e : k + length p ≡ suc t = omega arith in
      rw (e, coefficient_weighed s p t k (omega arith)) refl

  coefficient-padded : (s : ℕ → A) (p : List A) (d t : ℕ) → product_coefficient nought plus times s (p ++ replicate d nought) t ≡ product_coefficient nought plus times s p t
  unfolding product_coefficient
  coefficient-padded s [] d t = coefficient-noughts laws s d t
  coefficient-padded s (a ∷ p) d zero = refl
  coefficient-padded s (a ∷ p) d (suc t) = rw (coefficient-padded s p d t) refl

  -- noughts behind a polynomial change nothing of where it vanishes
  padded_vanishes : (p : List A) (d m : ℕ) → weighted_sum nought plus times (raised unit times (power m)) (p ++ replicate d nought) ≡ nought →
      locator_value nought plus times power p m ≡ nought
  unfolding locator_value
  padded_vanishes p d m is =
      let long : length (replicate d nought) ≡ d = length-replicate d nought in
      let factored : weighted_sum nought plus times (raised unit times (power m)) (p ++ replicate d nought) ≡
      times (raised unit times (power m) d) (weighted_sum nought plus times (raised unit times (power m)) p) =
      weighted_sum-append laws (raised unit times (power m)) p (replicate d nought) ∙
      rw (weighted_sum-replicate laws (raised unit times (power m)) d, long)
      (add_nought laws _ ∙
      same_weights laws (λ j. raised unit times (power m) (j + d)) (λ j. times (raised unit times (power m) d) (raised unit times (power m) j)) p
      (λ j _. raised_add laws (power m) j d ∙ mul_comm laws _ _) ∙
      scaled_weights laws (raised unit times (power m) d) (raised unit times (power m)) p) in
      let some : raised unit times (power m) d ≢ nought = λ none. laws.power_nonzero (d * m) (raised-power laws d m ∙ none) in
      let value : weighted_sum nought plus times (raised unit times (power m)) p ≡ nought =
      mul_cancel laws _ (raised unit times (power m) d) some (mul_comm laws _ _ ∙ sym factored ∙ is) in
      same_weights laws (λ j. power (j * m)) (raised unit times (power m)) p (λ j _. raised-power laws j m) ∙ value

  check_sum-moment : (error : List A) (t : ℕ) →
      check_sum nought plus times power error (suc t) ≡ weighted_sum nought plus times (λ m. times (power m) (raised unit times (power m) t)) error
  unfolding check_sum raised
  check_sum-moment error t = same_weights laws (λ m. power (suc t * m)) (λ m. times (power m) (raised unit times (power m) t)) error (λ m _. raised-power laws (suc t) m)

  pub located_vanishes : (equal : A → A → Bool) (decides : (a b : A) → Decides (equal a b) (a ≡ b)) (series : ℕ → A) (half : ℕ) (locator error : List A) →
      IsLocator nought plus times series half locator → length error ≤ order →
      ((t : ℕ) → t < half + half → series t ≡ check_sum nought plus times power error (suc t)) →
      count_by (λ x. not (equal x nought)) error ≤ half →
      VanishesAt nought (locator_value nought plus times power locator) error
  located_vanishes equal decides series half locator error is fits sums few =
      let d : ℕ = half + 1 - length locator in
      let padded : List A = locator ++ replicate d nought in
      let long : length padded ≡ half + 1 =
      let a : length padded ≡ length locator + length (replicate d nought) = length-append locator (replicate d nought) in
      let b : length (replicate d nought) ≡ d = length-replicate d nought in
      let c : length locator ≤ half + 1 = is.short in
      omega (arith, a, b, c) in
      let products : (k : ℕ) → k < half →
      weighted_sum nought plus times (λ j. weighted_sum nought plus times (λ m. times (power m) (raised unit times (power m) (k + j))) error) padded ≡ nought =
      λ k below.
      same_weights laws (λ j. weighted_sum nought plus times (λ m. times (power m) (raised unit times (power m) (k + j))) error) (λ j. series (k + j)) padded
      (λ j within. sym (sums (k + j) (omega (arith, within, long, below)) ∙ check_sum-moment error (k + j))) ∙
      sym (coefficient_weighed series padded (k + half) k (omega (arith, long))) ∙
      coefficient-padded series locator d (k + half) ∙ is.vanishes (k + half) (omega arith) (omega arith) in
      vanishes_too (λ m. weighted_sum nought plus times (raised unit times (power m)) padded) (locator_value nought plus times power locator) error
      (λ m. padded_vanishes locator d m)
      (key_equation laws equal decides power power padded error half
      (λ i j a b same. laws.powers_distinct i j (omega arith) (omega arith) same) (λ i _. laws.power_nonzero i) few products)
