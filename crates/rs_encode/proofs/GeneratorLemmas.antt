-- the generator's coefficients, each from the one before it: a polynomial with these, whose value at a power of alpha is
-- nought, has the value nought at the next power too
use Rattle.std.proofs.Common.{◌≡◌, ◌≢◌, ℕ, zero, suc, ◌+◌, ◌-◌, ◌*◌, ◌<◌, ◌≤◌, sym, ◌∙◌, ap, refl, arith, List, [], ◌∷◌, length, map, set, get_or, subst, inl, inr, get_or-set_other, get_or-set_same}
use Rattle.std.proofs.Math.Nat.{mul-zero, suc-mul}
use Rattle.std.proofs.lemmas.Bool.{cases_eq}
use Rattle.std.proofs.lemmas.List.{length-map}
use Rattle.std.proofs.lemmas.List.Elements.{All-from_get_or}
use Rattle.galois.specs.Field.{IsField}
use Rattle.galois.specs.CheckWord.{check_sum, IsCheckWord}
use Rattle.galois.proofs.Sums.{add_self, add_nought, nought_add, mul_nought, nought_mul, add_comm, add_assoc, add_left, add_again, mul_comm, mul_left, mul_assoc, unit_mul, mul_unit, distributes, distributes_right, mul_cancel, cancel_right, same_from_sum, product_nonzero, power_add, sum_nonzero}
use Rattle.galois.proofs.CheckWords.{check_sum-one}
use Rattle.rs_encode.specs.Generator.{IsGenerator, IsNext}
use Rattle.rs_encode.proofs.DivisionLemmas.{check_sum-front, power-place}

module _ {A : Type 0} {nought unit : A} {plus times : A → A → A} {inverse : A → A} {power : ℕ → A} {order : ℕ} (laws : IsField nought unit plus times inverse power order) where
  -- each coefficient against the one before it
  unfoldable pub IsChain : ℕ → List A → Type 0
  IsChain n [] = Unit {0}
  IsChain n (c ∷ []) = Unit {0}
  IsChain n (c ∷ (d ∷ rest)) =
      (times d (plus (power (length rest)) (power n)) ≡ times c (plus (power n) (times (power n) (power (suc (length rest)))))) × IsChain n (d ∷ rest)

  base_sum : (x n c : A) → plus (times (plus x n) c) (times (times n (plus x unit)) c) ≡ times (times c (plus unit n)) (times x unit)
  base_sum x n c = simp (add_self laws, add_again laws, add_nought laws, nought_add laws, add_comm laws, add_assoc laws, add_left laws, mul_comm laws, mul_assoc laws, mul_left laws, unit_mul laws, mul_unit laws, distributes laws, distributes_right laws)

  next_sum : (x n c p m a b : A) → plus (times (plus x n) (plus (times c (times p m)) a)) (times (times n (plus x unit)) (plus (times c p) b)) ≡
      plus (times c (times p (plus (times (plus x n) m) (times n (plus x unit))))) (plus (times (plus x n) a) (times (times n (plus x unit)) b))
  next_sum x n c p m a b = simp (add_comm laws, add_assoc laws, add_left laws, mul_comm laws, mul_assoc laws, mul_left laws, distributes laws, distributes_right laws)

  last_step : (x n c q m : A) → plus (times c (times (times x q) (plus (times (plus x n) m) (times n (plus x unit))))) (times (times c (plus n (times n m))) (times x q)) ≡
      times (times c (plus m n)) (times x (times x q))
  last_step x n c q m = simp (add_self laws, add_again laws, add_nought laws, nought_add laws, add_comm laws, add_assoc laws, add_left laws, mul_comm laws, mul_assoc laws, mul_left laws, unit_mul laws, mul_unit laws, distributes laws, distributes_right laws)

  chain_sum : (n k : ℕ) (c : A) (rest : List A) → IsChain n (c ∷ rest) →
      plus (times (plus (power k) (power n)) (check_sum nought plus times power (c ∷ rest) (suc k))) (times (times (power n) (plus (power k) unit)) (check_sum nought plus times power (c ∷ rest) k)) ≡
      times (times c (plus (power (length rest)) (power n))) (times (power k) (power (k * length rest)))
  unfolding IsChain
  chain_sum n k c [] chain =
      ap (λ z. plus (times (plus (power k) (power n)) z) (times (times (power n) (plus (power k) unit)) (check_sum nought plus times power (c ∷ []) k))) (check_sum-one laws c (suc k))
      ∙ ap (λ z. plus (times (plus (power k) (power n)) c) (times (times (power n) (plus (power k) unit)) z)) (check_sum-one laws c k)
      ∙ base_sum (power k) (power n) c
      ∙ ap (λ z. times (times c (plus z (power n))) (times (power k) unit)) (sym laws.power_zero)
      ∙ ap (λ z. times (times c (plus (power 0) (power n))) (times (power k) z)) (sym (ap power (mul-zero k) ∙ laws.power_zero))
  chain_sum n k c (d ∷ rest) chain =
      let x : A = power k in
      let m : ℕ = suc (length rest) in
      let q : A = power (k * length rest) in
      let place : power (k * m) ≡ times x q = power-place laws k (length rest) in
      let high : power (suc k * m) ≡ times (times x q) (power m) = ap power (suc-mul k m) ∙ power_add laws (k * m) m ∙ ap (λ z. times z (power m)) place in
      let a : A = check_sum nought plus times power (d ∷ rest) (suc k) in
      let b : A = check_sum nought plus times power (d ∷ rest) k in
      ap (λ z. plus (times (plus x (power n)) z) (times (times (power n) (plus x unit)) (check_sum nought plus times power (c ∷ (d ∷ rest)) k)))
      (check_sum-front laws c (d ∷ rest) (suc k) ∙ ap (λ z. plus (times c z) a) high)
      ∙ ap (λ z. plus (times (plus x (power n)) (plus (times c (times (times x q) (power m))) a)) (times (times (power n) (plus x unit)) z))
      (check_sum-front laws c (d ∷ rest) k ∙ ap (λ z. plus (times c z) b) place)
      ∙ next_sum x (power n) c (times x q) (power m) a b
      ∙ ap (plus (times c (times (times x q) (plus (times (plus x (power n)) (power m)) (times (power n) (plus x unit))))))
      (chain_sum n k d rest chain.1 ∙ ap (λ z. times z (times x q)) chain.0)
      ∙ last_step x (power n) c q (power m)
      ∙ ap (λ z. times (times c (plus (power m) (power n))) (times x z)) (sym place)

  -- so a word of n + 1 such coefficients has the roots alpha to n
  next_root : (n k : ℕ) (c : A) (rest : List A) → IsChain n (c ∷ rest) → length rest ≡ n → k < n → n < order →
      times (times (power n) (plus (power k) unit)) (check_sum nought plus times power (c ∷ rest) k) ≡ nought →
      check_sum nought plus times power (c ∷ rest) (suc k) ≡ nought
  next_root n k c rest chain long below few here =
      let s : A = check_sum nought plus times power (c ∷ rest) (suc k) in
      let t : A = times (times (power n) (plus (power k) unit)) (check_sum nought plus times power (c ∷ rest) k) in
      let last : times (times c (plus (power (length rest)) (power n))) (times (power k) (power (k * length rest))) ≡ nought =
      ap (λ i. times (times c (plus (power i) (power n))) (times (power k) (power (k * length rest)))) long
      ∙ ap (λ z. times (times c z) (times (power k) (power (k * length rest)))) (add_self laws (power n))
      ∙ ap (λ z. times z (times (power k) (power (k * length rest)))) (mul_nought laws c) ∙ nought_mul laws (times (power k) (power (k * length rest))) in
      let alone : times (plus (power k) (power n)) s ≡ nought =
      sym (add_nought laws (times (plus (power k) (power n)) s)) ∙ ap (plus (times (plus (power k) (power n)) s)) (sym here) ∙ chain_sum n k c rest chain ∙ last in
      mul_cancel laws s (plus (power k) (power n)) (sum_nonzero laws (power k) (power n) (λ same. let e : k ≡ n = laws.powers_distinct k n (omega arith) few same in omega arith))
      (mul_comm laws s (plus (power k) (power n)) ∙ alone)

  roots : (n k : ℕ) (c : A) (rest : List A) → IsChain n (c ∷ rest) → length rest ≡ n → n < order → k < n → check_sum nought plus times power (c ∷ rest) (suc k) ≡ nought
  roots n zero c rest chain long few below =
      next_root n zero c rest chain long below few
      (ap (λ z. times (times (power n) (plus z unit)) (check_sum nought plus times power (c ∷ rest) zero)) laws.power_zero
      ∙ ap (λ z. times (times (power n) z) (check_sum nought plus times power (c ∷ rest) zero)) (add_self laws unit)
      ∙ ap (λ z. times z (check_sum nought plus times power (c ∷ rest) zero)) (mul_nought laws (power n)) ∙ nought_mul laws (check_sum nought plus times power (c ∷ rest) zero))
  roots n (suc k) c rest chain long few below =
      next_root n (suc k) c rest chain long below few
      (ap (times (times (power n) (plus (power (suc k)) unit))) (roots n k c rest chain long few (omega arith)) ∙ mul_nought laws (times (power n) (plus (power (suc k)) unit)))

  chain_divides : (n : ℕ) (c : A) (rest : List A) → IsChain n (c ∷ rest) → length rest ≡ n → n < order → IsCheckWord nought plus times power (c ∷ rest) n
  chain_divides n c rest chain long few = record {
    root = λ k low high. ap (check_sum nought plus times power (c ∷ rest)) (let e : k ≡ suc (k - 1) = omega arith in e) ∙ roots n (k - 1) c rest chain long few (omega arith);
  }

  -- ---- by exponents

  -- the first exponents, behind that of the leading coefficient, are each the next after the one before
  pub record AreNext (count : ℕ) (exponents : List ℕ) (bound : ℕ) : Type 0 where
    pub below : (place : ℕ) → place < bound → get_or exponents place 0 < order
    pub next : (place : ℕ) → place < bound → IsNext plus times power count (count - suc place) (get_or (0 ∷ exponents) place 0) (get_or exponents place 0)

  before_kept : (exponents : List ℕ) (i j v : ℕ) → j ≤ i → get_or (0 ∷ set exponents i v) j 0 ≡ get_or (0 ∷ exponents) j 0
  before_kept exponents i zero v early = refl
  before_kept exponents i (suc j) v early = get_or-set_other exponents i j v 0 (λ e. omega arith)

  pub next_none : (count : ℕ) (exponents : List ℕ) → AreNext count exponents 0
  next_none count exponents = record { below = λ place none. absurd (omega arith); next = λ place none. absurd (omega arith) }

  pub next_more : (count : ℕ) (exponents : List ℕ) (i before v : ℕ) → i < length exponents → AreNext count exponents i → before ≡ get_or (0 ∷ exponents) i 0
      → v < order → IsNext plus times power count (count - suc i) before v → AreNext count (set exponents i v) (i + 1)
  next_more count exponents i before v within are is_before small here = record {
    below = λ place under. elim (cases_eq place i) [
      | inl at ↦ omega (arith, small, ap (λ (j : ℕ). get_or (set exponents i v) j 0) at ∙ get_or-set_same exponents i v 0 within)
      | inr apart ↦ omega (arith, are.below place (omega arith), get_or-set_other exponents i place v 0 apart)
    ];
    next = λ place under. elim (cases_eq place i) [
      | inl at ↦
          subst (λ (j : ℕ). IsNext plus times power count (count - suc j) (get_or (0 ∷ set exponents i v) j 0) (get_or (set exponents i v) j 0)) (sym at)
          (subst (λ (b : ℕ). IsNext plus times power count (count - suc i) b (get_or (set exponents i v) i 0)) (is_before ∙ sym (before_kept exponents i i v (omega arith)))
          (subst (λ (e : ℕ). IsNext plus times power count (count - suc i) before e) (sym (get_or-set_same exponents i v 0 within)) here))
      | inr apart ↦
          subst (λ (b : ℕ). IsNext plus times power count (count - suc place) b (get_or (set exponents i v) place 0)) (sym (before_kept exponents i place v (omega arith)))
          (subst (λ (e : ℕ). IsNext plus times power count (count - suc place) (get_or (0 ∷ exponents) place 0) e) (sym (get_or-set_other exponents i place v 0 apart)) (are.next place (omega arith)))
    ];
  }

  chain_of : (n c : ℕ) (rest : List ℕ) → ((i : ℕ) → i < length rest → IsNext plus times power n (length rest - suc i) (get_or (c ∷ rest) i 0) (get_or rest i 0)) → IsChain n (power c ∷ map power rest)
  unfolding IsChain
  chain_of n c [] next = tt
  chain_of n c (e ∷ rest) next = (
    subst (λ (k : ℕ). IsNext plus times power n k c e) (let same : suc (length rest) - 1 ≡ length (map power rest) = omega (arith, length-map rest power) in same) (next 0 (omega arith)),
    chain_of n e rest (λ i below. subst (λ (k : ℕ). IsNext plus times power n k (get_or (e ∷ rest) i 0) (get_or rest i 0))
        (let same : suc (length rest) - suc (suc i) ≡ length rest - suc i = omega arith in same) (next (suc i) (omega arith))),
  )

  pub is_generator : (exponents : List ℕ) → AreNext (length exponents) exponents (length exponents) → length exponents < order → IsGenerator nought unit plus times power order exponents
  is_generator exponents are few = record {
    below = All-from_get_or (λ e. e < order) exponents 0 (λ i within. are.below i within);
    divides = subst (λ (x : A). IsCheckWord nought plus times power (x ∷ map power exponents) (length exponents)) laws.power_zero
        (chain_divides (length exponents) (power 0) (map power exponents) (chain_of (length exponents) 0 exponents (λ i within. are.next i within)) (length-map exponents power) few);
  }

  pub last_before : (exponents : List ℕ) (i v : ℕ) → i < length exponents → v ≡ get_or (0 ∷ set exponents i v) (i + 1) 0
  last_before exponents i v within =
      sym (ap (λ (n : ℕ). get_or (0 ∷ set exponents i v) n 0) (let e : i + 1 ≡ suc i = omega arith in e) ∙ get_or-set_same exponents i v 0 within)

  -- what is divided, and what it is divided by, are other than nought
  pub lower_some : (count behind : ℕ) → behind < count → count < order → plus (power behind) (power count) ≢ nought
  lower_some count behind below few = sum_nonzero laws (power behind) (power count) (λ same. let e : behind ≡ count = laws.powers_distinct behind count (omega arith) few same in omega arith)

  pub upper_is : (count behind : ℕ) → plus (power count) (power (count + behind + 1)) ≡ plus (power count) (times (power count) (power (suc behind)))
  upper_is count behind = ap (λ x. plus (power count) x) (ap power (let e : count + behind + 1 ≡ count + suc behind = omega arith in e) ∙ power_add laws count (suc behind))

  upper_some : (count behind : ℕ) → behind < count → count < order → plus (power count) (times (power count) (power (suc behind))) ≢ nought
  upper_some count behind below few none =
      let same : power (suc behind) ≡ unit =
      cancel_right laws (power (suc behind)) unit (power count) (laws.power_nonzero count)
      (mul_comm laws (power (suc behind)) (power count) ∙ sym (same_from_sum laws (power count) (times (power count) (power (suc behind))) none) ∙ sym (unit_mul laws (power count))) in
      let e : suc behind ≡ 0 = laws.powers_distinct (suc behind) 0 (omega arith) (omega arith) (same ∙ sym laws.power_zero) in
      omega arith

  -- the quotient is other than nought, and its exponent is the next
  pub quotient_next : (count behind before : ℕ) (upper product lower quotient : A) → behind < count → count < order →
      upper ≡ plus (power count) (power (count + behind + 1)) → lower ≡ plus (power behind) (power count) → product ≡ times upper (power before) → times quotient lower ≡ product →
      times quotient (plus (power behind) (power count)) ≡ times (power before) (plus (power count) (times (power count) (power (suc behind))))
  quotient_next count behind before upper product lower quotient below few is_upper is_lower is_product is =
      ap (times quotient) (sym is_lower) ∙ is ∙ is_product ∙ mul_comm laws upper (power before) ∙ ap (times (power before)) (is_upper ∙ upper_is count behind)

  pub quotient_some : (count behind before : ℕ) (quotient : A) → behind < count → count < order →
      times quotient (plus (power behind) (power count)) ≡ times (power before) (plus (power count) (times (power count) (power (suc behind)))) → quotient ≢ nought
  quotient_some count behind before quotient below few is none =
      product_nonzero laws (power before) (plus (power count) (times (power count) (power (suc behind)))) (laws.power_nonzero before) (upper_some count behind below few)
      (sym is ∙ ap (λ x. times x (plus (power behind) (power count))) none ∙ nought_mul laws (plus (power behind) (power count)))
