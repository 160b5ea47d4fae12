-- coefficients of products, and sums of elements, of lists that are added and moved
use Rattle.std.proofs.Common.{◌≡◌, ℕ, zero, suc, ◌+◌, ◌<◌, ◌≤◌, sym, ◌∙◌, ap, refl, arith, List, [], ◌∷◌, ◌++◌, length, replicate}
use Rattle.galois.specs.Field.{IsField}
use Rattle.galois.proofs.Sums.{nought_add, add_nought, nought_mul, mul_nought, unit_mul, mul_unit, add_self, add_again, add_comm, add_assoc, add_left, mul_comm, mul_assoc, mul_left, distributes, distributes_right}
use Rattle.galois.specs.Coefficients.{product_coefficient, total, added, added_behind, lead}

-- a polynomial times a power of x
unfoldable pub moved : {A : Type 0} (nought : A) → ℕ → List A → List A
moved nought zero p = p
moved nought (suc d) p = nought ∷ moved nought d p

module _ {A : Type 0} {nought unit : A} {plus times : A → A → A} {inverse : A → A} {power : ℕ → A} {order : ℕ} (laws : IsField nought unit plus times inverse power order) where
  pub coefficient-nought_behind : (s : ℕ → A) (p : List A) (t : ℕ) →
      product_coefficient nought plus times s (p ++ nought ∷ []) t ≡ product_coefficient nought plus times s p t
  unfolding product_coefficient
  coefficient-nought_behind s [] zero = nought_mul laws (s zero)
  coefficient-nought_behind s [] (suc t) = rw (nought_mul laws (s (suc t))) (add_nought laws nought)
  coefficient-nought_behind s (a ∷ p) zero = refl
  coefficient-nought_behind s (a ∷ p) (suc t) = rw (coefficient-nought_behind s p t) refl

  pub total-nought_behind : (p : List A) → total nought plus (p ++ nought ∷ []) ≡ total nought plus p
  unfolding total
  total-nought_behind [] = add_nought laws nought
  total-nought_behind (a ∷ p) = rw (total-nought_behind p) refl

  pub coefficient-added : (s : ℕ → A) (f : A) (p q : List A) (t : ℕ) → length q ≤ length p →
      product_coefficient nought plus times s (added plus times f p q) t ≡
      plus (product_coefficient nought plus times s p t) (times f (product_coefficient nought plus times s q t))
  unfolding product_coefficient added
  coefficient-added s f [] [] t short = simp (nought_add laws, add_nought laws, nought_mul laws, mul_nought laws, unit_mul laws, mul_unit laws, add_self laws, add_again laws, add_comm laws, add_assoc laws, add_left laws, mul_comm laws, mul_assoc laws, mul_left laws, distributes laws, distributes_right laws)
  coefficient-added s f [] (b ∷ q) t short = absurd (omega arith)
  coefficient-added s f (a ∷ p) [] t short = simp (nought_add laws, add_nought laws, nought_mul laws, mul_nought laws, unit_mul laws, mul_unit laws, add_self laws, add_again laws, add_comm laws, add_assoc laws, add_left laws, mul_comm laws, mul_assoc laws, mul_left laws, distributes laws, distributes_right laws)
  coefficient-added s f (a ∷ p) (b ∷ q) zero short = simp (nought_add laws, add_nought laws, nought_mul laws, mul_nought laws, unit_mul laws, mul_unit laws, add_self laws, add_again laws, add_comm laws, add_assoc laws, add_left laws, mul_comm laws, mul_assoc laws, mul_left laws, distributes laws, distributes_right laws)
  coefficient-added s f (a ∷ p) (b ∷ q) (suc t) short = rw (coefficient-added s f p q t (omega arith)) (simp (nought_add laws, add_nought laws, nought_mul laws, mul_nought laws, unit_mul laws, mul_unit laws, add_self laws, add_again laws, add_comm laws, add_assoc laws, add_left laws, mul_comm laws, mul_assoc laws, mul_left laws, distributes laws, distributes_right laws))

  pub total-added : (f : A) (p q : List A) → length q ≤ length p →
      total nought plus (added plus times f p q) ≡ plus (total nought plus p) (times f (total nought plus q))
  unfolding total added
  total-added f [] [] short = simp (nought_add laws, add_nought laws, nought_mul laws, mul_nought laws, unit_mul laws, mul_unit laws, add_self laws, add_again laws, add_comm laws, add_assoc laws, add_left laws, mul_comm laws, mul_assoc laws, mul_left laws, distributes laws, distributes_right laws)
  total-added f [] (b ∷ q) short = absurd (omega arith)
  total-added f (a ∷ p) [] short = simp (nought_add laws, add_nought laws, nought_mul laws, mul_nought laws, unit_mul laws, mul_unit laws, add_self laws, add_again laws, add_comm laws, add_assoc laws, add_left laws, mul_comm laws, mul_assoc laws, mul_left laws, distributes laws, distributes_right laws)
  total-added f (a ∷ p) (b ∷ q) short = rw (total-added f p q (omega arith)) (simp (nought_add laws, add_nought laws, nought_mul laws, mul_nought laws, unit_mul laws, mul_unit laws, add_self laws, add_again laws, add_comm laws, add_assoc laws, add_left laws, mul_comm laws, mul_assoc laws, mul_left laws, distributes laws, distributes_right laws))

  pub length-added : (f : A) (p q : List A) → length (added plus times f p q) ≡ length p
  unfolding added
  length-added f [] q = refl
  length-added f (a ∷ p) [] = refl
  length-added f (a ∷ p) (b ∷ q) = ap suc (length-added f p q)

  pub length-moved : (d : ℕ) (p : List A) → length (moved nought d p) ≡ d + length p
  unfolding moved
  length-moved zero p = omega arith
  length-moved (suc d) p = let e : _ = length-moved d p in omega (arith, e)

  pub total-moved : (d : ℕ) (p : List A) → total nought plus (moved nought d p) ≡ total nought plus p
  unfolding moved total
  total-moved zero p = refl
  total-moved (suc d) p = nought_add laws _ ∙ total-moved d p

  pub added_behind-moved : (f : A) (d : ℕ) (p q : List A) → d + length q ≤ length p →
      added_behind plus times f d p q ≡ added plus times f p (moved nought d q)
  unfolding added_behind added moved
  added_behind-moved f zero p q short = refl
  added_behind-moved f (suc d) [] q short = absurd (omega arith)
  added_behind-moved f (suc d) (a ∷ p) q short =
      let e : plus a (times f nought) ≡ a = simp (nought_add laws, add_nought laws, nought_mul laws, mul_nought laws, unit_mul laws, mul_unit laws, add_self laws, add_again laws, add_comm laws, add_assoc laws, add_left laws, mul_comm laws, mul_assoc laws, mul_left laws, distributes laws, distributes_right laws) in
      rw (e, ← added_behind-moved f d p q (omega arith)) refl

  -- what agrees in its coefficients below a bound agrees there when it is moved
  pub moved_agrees : (s r : ℕ → A) (m d : ℕ) (p q : List A) →
      ((t : ℕ) → t < m → product_coefficient nought plus times s p t ≡ product_coefficient nought plus times r q t) →
      (t : ℕ) → t < m → product_coefficient nought plus times s (moved nought d p) t ≡ product_coefficient nought plus times r (moved nought d q) t
  unfolding moved product_coefficient
  moved_agrees s r m zero p q same t below = same t below
  moved_agrees s r m (suc d) p q same zero below = nought_mul laws (s zero) ∙ sym (nought_mul laws (r zero))
  moved_agrees s r m (suc d) p q same (suc t) below =
      let e : _ = moved_agrees s r m d p q same t (omega arith) in
      rw (e, nought_mul laws (s (suc t)), nought_mul laws (r (suc t))) refl

  pub coefficient-noughts : (s : ℕ → A) (n t : ℕ) → product_coefficient nought plus times s (replicate n nought) t ≡ nought
  unfolding product_coefficient
  coefficient-noughts s zero t = refl
  coefficient-noughts s (suc n) zero = nought_mul laws (s zero)
  coefficient-noughts s (suc n) (suc t) = rw (coefficient-noughts s n t) (simp (nought_add laws, add_nought laws, nought_mul laws, mul_nought laws, unit_mul laws, mul_unit laws, add_self laws, add_again laws, add_comm laws, add_assoc laws, add_left laws, mul_comm laws, mul_assoc laws, mul_left laws, distributes laws, distributes_right laws))

  pub total-noughts : (n : ℕ) → total nought plus (replicate n nought) ≡ nought
  unfolding total
  total-noughts zero = refl
  total-noughts (suc n) = rw (total-noughts n) (add_nought laws nought)

  -- past its length a polynomial has no coefficients
  pub lead-past : (p : List A) (t : ℕ) → length p ≤ t → product_coefficient nought plus times (lead nought unit) p t ≡ nought
  unfolding product_coefficient lead
  lead-past [] t past = refl
  lead-past (a ∷ p) zero past = absurd (omega arith)
  lead-past (a ∷ p) (suc t) past = rw (lead-past p t (omega arith)) (simp (nought_add laws, add_nought laws, nought_mul laws, mul_nought laws, unit_mul laws, mul_unit laws, add_self laws, add_again laws, add_comm laws, add_assoc laws, add_left laws, mul_comm laws, mul_assoc laws, mul_left laws, distributes laws, distributes_right laws))

  -- and without any its elements sum to nought
  pub total-vanishing : (p : List A) → ((t : ℕ) → t < length p → product_coefficient nought plus times (lead nought unit) p t ≡ nought) → total nought plus p ≡ nought
  unfolding product_coefficient lead total
  total-vanishing [] none = refl
  total-vanishing (a ∷ p) none =
      let first : a ≡ nought = sym (mul_unit laws a) ∙ none 0 (omega arith) in
      let rest : total nought plus p ≡ nought =
      total-vanishing p (λ t below. let e : plus (times a nought) (product_coefficient nought plus times (lead nought unit) p t) ≡ nought = none (suc t) (omega arith) in
      simp (mul_nought laws, nought_add laws) at e) in
      rw (first, rest) (add_nought laws nought)
