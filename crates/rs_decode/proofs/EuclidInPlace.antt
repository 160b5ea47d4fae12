-- the steps of Euclid's algorithm on lists in the place of others
use Rattle.std.proofs.Common.{◌≡◌, ℕ, zero, suc, ◌+◌, ◌-◌, ◌<◌, ◌≤◌, sym, ◌∙◌, ap, refl, arith, List, [], ◌∷◌, ◌++◌, length, replicate, take, drop, get_or, set, subst, add-one, length-append}
use Rattle.std.proofs.Math.Seq.{take-suc-set}
use Rattle.std.proofs.lemmas.List.{take_all, length-replicate, get_or-take, take-replicate}
use Rattle.galois.specs.Field.{IsField}
use Rattle.galois.proofs.Sums.{nought_add, add_nought, nought_mul, mul_nought, unit_mul, mul_unit}
use Rattle.galois.specs.Coefficients.{product_coefficient, total, added, added_behind, lead}
use Rattle.galois.specs.Locator.{IsLocator}
use Rattle.rs_decode.specs.Euclid.{IsEuclid, HoldsEuclid}
use Rattle.galois.proofs.Coefficients.{coefficient-noughts}
use Rattle.rs_decode.proofs.Euclid.{shortened, located}
use Rattle.rs_decode.proofs.Slices.{front_and_last, take_front, taken_most, taken_all}

module _ {A : Type 0} {nought unit : A} {plus times : A → A → A} {inverse : A → A} {power : ℕ → A} {order : ℕ} (laws : IsField nought unit plus times inverse power order) where
  -- where the last coefficients cancel, the sum ends in nought
  added_cut : (f : A) (p q : List A) (m : ℕ) (x y : A) → length q ≡ length p → suc m ≡ length p →
      plus (get_or p m x) (times f (get_or q m y)) ≡ nought →
      added plus times f p q ≡ take m (added plus times f p q) ++ nought ∷ []
  unfolding added
  added_cut f [] q m x y same last cancels = absurd (omega arith)
  added_cut f (a ∷ p) [] m x y same last cancels = absurd (omega arith)
  added_cut f (a ∷ []) (b ∷ []) zero x y same last cancels = ap (λ z. z ∷ []) cancels
  added_cut f (a ∷ c ∷ p) (b ∷ q) zero x y same last cancels = absurd (omega arith)
  added_cut f (a ∷ []) (b ∷ c ∷ q) zero x y same last cancels = absurd (omega arith)
  added_cut f (a ∷ p) (b ∷ q) (suc m) x y same last cancels = ap (λ l. plus a (times f b) ∷ l) (added_cut f p q m x y (omega arith) (omega arith) cancels)

  pub behind_cut : (f : A) (d : ℕ) (p q : List A) (m k : ℕ) (x y : A) → d + length q ≡ length p → m + 1 ≡ length p → k + 1 ≡ length q →
      plus (get_or p m x) (times f (get_or q k y)) ≡ nought →
      added_behind plus times f d p q ≡ take m (added_behind plus times f d p q) ++ nought ∷ []
  unfolding added_behind
  behind_cut f zero p q m k x y same last last' cancels =
      let e : k ≡ m = omega arith in
      added_cut f p q m x y (omega arith) (omega arith) (subst (λ (n : ℕ). plus (get_or p m x) (times f (get_or q n y)) ≡ nought) e cancels)
  behind_cut f (suc d) [] q m k x y same last last' cancels = absurd (omega arith)
  behind_cut f (suc d) (a ∷ p) q zero k x y same last last' cancels = absurd (omega arith)
  behind_cut f (suc d) (a ∷ p) q (suc m) k x y same last last' cancels = ap (λ l. a ∷ l) (behind_cut f d p q m k x y (omega arith) (omega arith) (omega arith) cancels)

  pub same_few : (series : ℕ → A) (few few' : ℕ) (high high_factor low low_factor : List A) (long_high long_low : ℕ) → few ≡ few' →
      HoldsEuclid nought unit plus times series few high high_factor low low_factor long_high long_low →
      HoldsEuclid nought unit plus times series few' high high_factor low low_factor long_high long_low
  same_few series few few' high high_factor low low_factor long_high long_low same holds =
      subst (λ (n : ℕ). HoldsEuclid nought unit plus times series n high high_factor low low_factor long_high long_low) same holds

  module _ (series : ℕ → A) (few : ℕ) where
    -- a lower remainder that ends in nought is cut
    pub step_short : (high high_factor low low_factor : List A) (long_high long_low : ℕ) (x : A) → 0 < long_low → long_low ≤ few + 1 →
        long_low ≤ length low → few + 2 - long_low < length high_factor → get_or low (long_low - 1) x ≡ nought →
        HoldsEuclid nought unit plus times series few high high_factor low low_factor long_high long_low →
        HoldsEuclid nought unit plus times series few high (set high_factor (few + 2 - long_low) nought) low low_factor long_high (long_low - 1)
    step_short high high_factor low low_factor long_high long_low x some most within room is_nought holds =
        let cut : take long_low low ≡ take (long_low - 1) low ++ nought ∷ [] =
        front_and_last low long_low x some within ∙ ap (λ y. take (long_low - 1) low ++ y ∷ []) is_nought in
        let wider : take (few + 2 - (long_low - 1)) (set high_factor (few + 2 - long_low) nought) ≡ take (few + 2 - long_low) high_factor ++ nought ∷ [] =
        let e : few + 2 - (long_low - 1) ≡ suc (few + 2 - long_low) = omega arith in
        rw e (take-suc-set high_factor (few + 2 - long_low) nought room) in
        subst (λ l. IsEuclid nought unit plus times series few (take long_high high) l (take (long_low - 1) low) (take (few + 2 - long_high) low_factor)) (sym wider)
        (shortened laws series few _ _ _ _
        (subst (λ l. IsEuclid nought unit plus times series few (take long_high high) (take (few + 2 - long_low) high_factor) l (take (few + 2 - long_high) low_factor)) cut holds))

    -- a higher remainder that was reduced, in the place of the old one
    pub step_reduced : (high high_factor low low_factor new_high new_factor : List A) (long_high long_low : ℕ) →
        0 < long_high → long_high ≤ few + 1 → few + 2 - long_high < length low_factor → long_high ≤ length high → few + 2 - long_low ≤ length high_factor →
        length new_high ≡ long_high → length new_factor ≡ few + 2 - long_low →
        IsEuclid nought unit plus times series few (take (long_high - 1) new_high) new_factor (take long_low low) (take (few + 2 - long_high) low_factor ++ nought ∷ []) →
        HoldsEuclid nought unit plus times series few (new_high ++ drop long_high high) (new_factor ++ drop (few + 2 - long_low) high_factor) low (set low_factor (few + 2 - long_high) nought) (long_high - 1) long_low
    step_reduced high high_factor low low_factor new_high new_factor long_high long_low some most room long wide long' wide' is =
        let at_high : take (long_high - 1) (new_high ++ drop long_high high) ≡ take (long_high - 1) new_high = take_front new_high (drop long_high high) (long_high - 1) (omega arith) in
        let at_factor : take (few + 2 - long_low) (new_factor ++ drop (few + 2 - long_low) high_factor) ≡ new_factor =
        take_front new_factor (drop (few + 2 - long_low) high_factor) (few + 2 - long_low) (omega arith) ∙ take_all (few + 2 - long_low) new_factor (omega arith) in
        let wider : take (few + 2 - (long_high - 1)) (set low_factor (few + 2 - long_high) nought) ≡ take (few + 2 - long_high) low_factor ++ nought ∷ [] =
        let e : few + 2 - (long_high - 1) ≡ suc (few + 2 - long_high) = omega arith in
        rw e (take-suc-set low_factor (few + 2 - long_high) nought room) in
        rw (at_high, at_factor, wider) is

    -- one, and the syndromes, to begin with
    lead-noughts : (n t : ℕ) → t < n → product_coefficient nought plus times (lead nought unit) (replicate n nought ++ unit ∷ []) t ≡ nought
    unfolding product_coefficient lead
    lead-noughts zero t below = absurd (omega arith)
    lead-noughts (suc n) zero below = nought_mul laws unit
    lead-noughts (suc n) (suc t) below = rw (lead-noughts n t (omega arith), nought_mul laws nought) (add_nought laws nought)

    lead-is : (p : List A) (t : ℕ) → product_coefficient nought plus times (lead nought unit) p t ≡ get_or p t nought
    unfolding product_coefficient lead
    lead-is [] t = refl
    lead-is (a ∷ p) zero = mul_unit laws a
    lead-is (a ∷ p) (suc t) = rw (lead-is p t, mul_nought laws a) (nought_add laws (get_or p t nought))

    one_series : (t : ℕ) → product_coefficient nought plus times series (unit ∷ []) t ≡ series t
    unfolding product_coefficient
    one_series zero = unit_mul laws (series 0)
    one_series (suc t) = rw (unit_mul laws (series (suc t))) (add_nought laws (series (suc t)))

    total-lead : (n : ℕ) → total nought plus (replicate n nought ++ unit ∷ []) ≡ unit
    unfolding total
    total-lead zero = add_nought laws unit
    total-lead (suc n) = rw (total-lead n) (nought_add laws unit)

    total-one : total nought plus (unit ∷ []) ≡ unit
    unfolding total
    total-one = add_nought laws unit

    total-two : total nought plus (nought ∷ nought ∷ []) ≡ nought
    unfolding total
    total-two = simp (nought_add laws)

    two-nothing : (t : ℕ) → product_coefficient nought plus times series (nought ∷ nought ∷ []) t ≡ nought
    two-nothing t = coefficient-noughts laws series 2 t

    pub begun : (low : List A) → length low ≡ few → ((t : ℕ) → t < few → get_or low t nought ≡ series t) →
        IsEuclid nought unit plus times series few (replicate few nought ++ unit ∷ []) (nought ∷ nought ∷ []) low (unit ∷ [])
    begun low long same = record {
      high_width = let e : length (replicate few nought ++ unit ∷ []) ≡ length (replicate few nought) + 1 = length-append (replicate few nought) (unit ∷ []) in
          let f : length (replicate few nought) ≡ few = length-replicate few nought in omega (arith, e, f);
      low_width = omega (arith, long);
      high_agrees = λ t below. two-nothing t ∙ sym (lead-noughts few t below);
      low_agrees = λ t below. one_series t ∙ sym (same t below) ∙ sym (lead-is low t);
      whole = rw (total-lead few, total-one, total-two) (ap (plus (times unit unit)) (mul_nought laws (total nought plus low)) ∙ add_nought laws (times unit unit) ∙ unit_mul laws unit);
    }

    -- the two ends
    pub low_ends : (half : ℕ) (high high_factor low low_factor : List A) (long_high long_low : ℕ) → few ≡ half + half → long_low ≤ half → half < long_high → long_high ≤ few + 1 →
        HoldsEuclid nought unit plus times series few high high_factor low low_factor long_high long_low →
        IsLocator nought plus times series half (take (few + 2 - long_high) low_factor)
    low_ends half high high_factor low low_factor long_high long_low twice short long most holds =
        located laws series few half _ _ _ _ holds twice
        (let e : length (take long_low low) ≤ long_low = taken_most low long_low in omega (arith, e))
        (let e : length (take (few + 2 - long_high) low_factor) ≤ few + 2 - long_high = taken_most low_factor (few + 2 - long_high) in
        let f : length (take long_high high) + length (take (few + 2 - long_high) low_factor) ≡ few + 2 = holds.high_width in
        omega (arith, e, f))

    one_first : (list : List A) → 0 < length list → take 1 (set list 0 unit) ≡ unit ∷ []
    one_first [] some = absurd (omega arith)
    one_first (x ∷ list) some = refl

    -- the four lists to begin with
    pub begun_in : (syndromes high high_factor low low_factor : List A) → few ≤ length syndromes → length high ≡ few + 1 → 2 ≤ length high_factor → 0 < length low_factor →
        ((t : ℕ) → t < few → get_or syndromes t nought ≡ series t) →
        HoldsEuclid nought unit plus times series few (set (replicate (length high) nought) few unit) (replicate (length high_factor) nought) (take few syndromes ++ drop few low) (set low_factor 0 unit) (few + 1) few
    begun_in syndromes high high_factor low low_factor enough long two some same =
        let long_high : length (replicate (length high) nought) ≡ length high = length-replicate (length high) nought in
        let at_high : take (few + 1) (set (replicate (length high) nought) few unit) ≡ replicate few nought ++ unit ∷ [] =
        ap (λ (k : ℕ). take k (set (replicate (length high) nought) few unit)) (add-one few) ∙
        take-suc-set (replicate (length high) nought) few unit (omega (arith, long_high)) ∙
        ap (λ l. l ++ unit ∷ []) (take-replicate few (length high) nought (omega arith)) in
        let at_factor : take (few + 2 - few) (replicate (length high_factor) nought) ≡ nought ∷ nought ∷ [] =
        let e : few + 2 - few ≡ 2 = omega arith in
        ap (λ (k : ℕ). take k (replicate (length high_factor) nought)) e ∙ take-replicate 2 (length high_factor) nought two in
        let long_low : length (take few syndromes) ≡ few = taken_all syndromes few enough in
        let at_low : take few (take few syndromes ++ drop few low) ≡ take few syndromes =
        take_front (take few syndromes) (drop few low) few (omega (arith, long_low)) ∙ take_all few (take few syndromes) (omega (arith, long_low)) in
        let at_low_factor : take (few + 2 - (few + 1)) (set low_factor 0 unit) ≡ unit ∷ [] =
        let e : few + 2 - (few + 1) ≡ 1 = omega arith in
        ap (λ (k : ℕ). take k (set low_factor 0 unit)) e ∙ one_first low_factor some in
        rw (at_high, at_factor, at_low, at_low_factor)
        (begun (take few syndromes) long_low (λ t below. get_or-take few syndromes t nought below ∙ same t below))
