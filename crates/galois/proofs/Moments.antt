-- a word with few elements that are not nought, whose first moments vanish, is nought at every place
use Rattle.std.proofs.Common.{◌≡◌, ◌≢◌, ℕ, zero, suc, ◌+◌, ◌<◌, ◌≤◌, sym, ◌∙◌, ap, refl, arith, List, [], ◌∷◌, length, replicate, Bool, true, false, not, cond, if◌then◌else◌}
use Rattle.std.specs.List.{count_by}
use Rattle.std.proofs.lemmas.List.Sums.{sum_by-cons}
use Rattle.std.specs.Bool.{Decides}
use Rattle.galois.specs.Field.{IsField}
use Rattle.galois.specs.CheckWord.{weighted_sum}
use Rattle.galois.proofs.Sums.{nought_add, add_nought, mul_nought, nought_mul, mul_unit, add_self, mul_comm, mul_left, distributes, product_nonzero, sum_nonzero, mul_cancel, raised, same_weights, sum_of_weights, scaled_weights, weighted_sum-replicate}

module _ {A : Type 0} {nought unit : A} {plus times : A → A → A} {inverse : A → A} {power : ℕ → A} {order : ℕ} (laws : IsField nought unit plus times inverse power order) where
  -- the moment k of a word: each element times its weight and its place to the power k
  abbrev moment : (place weight : ℕ → A) → ℕ → List A → A
  moment place weight k w = weighted_sum nought plus times (λ m. times (weight m) (raised unit times (place m) k)) w

  -- weighed anew by the sum of the place and y, moment k is y times the old one and the next
  moment-weighed : (place weight : ℕ → A) (y : A) (k : ℕ) (w : List A) →
      moment place (λ m. times (weight m) (plus (place m) y)) k w ≡ plus (moment place weight (suc k) w) (times y (moment place weight k w))
  unfolding raised
  moment-weighed place weight y k w =
      same_weights laws _ _ w (λ m _. simp (mul_left laws, mul_comm laws, distributes laws)) ∙
      sum_of_weights laws (λ m. times (weight m) (times (place m) (raised unit times (place m) k))) (λ m. times y (times (weight m) (raised unit times (place m) k))) w ∙
      ap (plus _) (scaled_weights laws y (λ m. times (weight m) (raised unit times (place m) k)) w)

  moment-cons : (place weight : ℕ → A) (k : ℕ) (e : A) (w : List A) →
      moment place weight k (e ∷ w) ≡ plus (times e (times (weight (length w)) (raised unit times (place (length w)) k))) (moment place weight k w)
  unfolding weighted_sum
  moment-cons place weight k e w = refl

  moment-replicate : (place weight : ℕ → A) (k n : ℕ) → moment place weight k (replicate n nought) ≡ nought
  moment-replicate place weight k n = weighted_sum-replicate laws (λ m. times (weight m) (raised unit times (place m) k)) n

  moment-nought : (place weight : ℕ → A) (k : ℕ) (e : A) (w : List A) → e ≡ nought → moment place weight k (e ∷ w) ≡ moment place weight k w
  moment-nought place weight k e w is = rw (moment-cons place weight k e w, is) (simp (nought_mul laws, nought_add laws))

  -- weighed anew by the sum of the place and that of the head, the head counts no more
  moment-headless : (place weight : ℕ → A) (k : ℕ) (e : A) (w : List A) →
      moment place weight k (e ∷ w) ≡ nought → moment place weight (suc k) (e ∷ w) ≡ nought →
      moment place (λ m. times (weight m) (plus (place m) (place (length w)))) k w ≡ nought
  moment-headless place weight k e w now next =
      let anew : ℕ → A = λ m. times (weight m) (plus (place m) (place (length w))) in
      let head : moment place anew k (e ∷ w) ≡ moment place anew k w =
      rw (moment-cons place anew k e w) (simp (add_self laws, mul_nought laws, nought_mul laws, nought_add laws)) in
      sym head ∙ moment-weighed place weight (place (length w)) k (e ∷ w) ∙ rw (now, next) (simp (mul_nought laws, nought_add laws))

  -- a head before a word of noughts is nought where its moment 0 is
  head_vanishes : (place weight : ℕ → A) (e : A) (w : List A) → weight (length w) ≢ nought → w ≡ replicate (length w) nought →
      moment place weight 0 (e ∷ w) ≡ nought → e ≡ nought
  unfolding raised
  head_vanishes place weight e w nonzero rest vanish =
      let none : moment place weight 0 w ≡ nought = rw rest (moment-replicate place weight 0 (length w)) in
      let product : times e (weight (length w)) ≡ nought =
      simp (add_nought laws, mul_unit laws) at (sym (rw none at (moment-cons place weight 0 e w)) ∙ vanish) in
      mul_cancel laws e (weight (length w)) nonzero product

  module _ (equal : A → A → Bool) (decides : (a b : A) → Decides (equal a b) (a ≡ b)) (place : ℕ → A) where
    abbrev few : List A → ℕ
    few w = count_by (λ x. not (equal x nought)) w

    few-cons : (e : A) (w : List A) (b : Bool) → equal e nought ≡ b → few (e ∷ w) ≡ (if b then 0 else 1) + few w
    few-cons e w true is = sum_by-cons (λ x. cond (not (equal x nought)) 1 0) e w ∙ ap (λ t. cond (not t) 1 0 + few w) is
    few-cons e w false is = sum_by-cons (λ x. cond (not (equal x nought)) 1 0) e w ∙ ap (λ t. cond (not t) 1 0 + few w) is

    abbrev Vanishing : List A → Type 0
    Vanishing w = (weight : ℕ → A) (c : ℕ) →
        ((i j : ℕ) → i < length w → j < length w → place i ≡ place j → i ≡ j) →
        ((i : ℕ) → i < length w → weight i ≢ nought) →
        few w ≤ c →
        ((k : ℕ) → k < c → moment place weight k w ≡ nought) →
        w ≡ replicate (length w) nought

    vanishing-nought : (e : A) (w : List A) → equal e nought ≡ true → Vanishing w → Vanishing (e ∷ w)
    vanishing-nought e w is tail weight c distinct nonzero bound vanish =
        let zero_head : e ≡ nought = (decides e nought).0 is in
        let rest : w ≡ replicate (length w) nought = tail weight c
        (λ i j a b. distinct i j (omega arith) (omega arith)) (λ i a. nonzero i (omega arith))
        (let n : few (e ∷ w) ≡ 0 + few w = few-cons e w true is in omega arith)
        (λ k below. sym (moment-nought place weight k e w zero_head) ∙ vanish k below) in
        ap (λ x. x ∷ w) zero_head ∙ ap (λ v. nought ∷ v) rest

    vanishing-other : (e : A) (w : List A) → equal e nought ≡ false → Vanishing w → Vanishing (e ∷ w)
    vanishing-other e w is tail weight zero distinct nonzero bound vanish =
        let n : few (e ∷ w) ≡ 1 + few w = few-cons e w false is in absurd (omega arith)
    vanishing-other e w is tail weight (suc c) distinct nonzero bound vanish =
        let n : few (e ∷ w) ≡ 1 + few w = few-cons e w false is in
        let rest : w ≡ replicate (length w) nought = tail (λ m. times (weight m) (plus (place m) (place (length w)))) c
        (λ i j a b. distinct i j (omega arith) (omega arith))
        (λ i a. product_nonzero laws (weight i) (plus (place i) (place (length w))) (nonzero i (omega arith))
        (sum_nonzero laws (place i) (place (length w)) (λ same. let at : i ≡ length w = distinct i (length w) (omega arith) (omega arith) same in absurd (omega arith))))
        (omega arith)
        (λ k below. moment-headless place weight k e w (vanish k (omega arith)) (vanish (suc k) (omega arith))) in
        let head : e ≡ nought = head_vanishes place weight e w (nonzero (length w) (omega arith)) rest (vanish 0 (omega arith)) in
        let contrary : true ≡ false = sym ((decides e nought).1 head) ∙ is in (cc)

    vanishing-cons : (e : A) (w : List A) (b : Bool) → equal e nought ≡ b → Vanishing w → Vanishing (e ∷ w)
    vanishing-cons e w true is tail = vanishing-nought e w is tail
    vanishing-cons e w false is tail = vanishing-other e w is tail

    -- places all different, weights that are not nought: where as many moments vanish as there are elements that are
    -- not nought, there are none
    pub moments_vanish : (w : List A) (weight : ℕ → A) (c : ℕ) →
        ((i j : ℕ) → i < length w → j < length w → place i ≡ place j → i ≡ j) →
        ((i : ℕ) → i < length w → weight i ≢ nought) →
        count_by (λ x. not (equal x nought)) w ≤ c →
        ((k : ℕ) → k < c → weighted_sum nought plus times (λ m. times (weight m) (raised unit times (place m) k)) w ≡ nought) →
        w ≡ replicate (length w) nought
    moments_vanish [] weight c distinct nonzero bound vanish = refl
    moments_vanish (e ∷ w) weight c distinct nonzero bound vanish =
        vanishing-cons e w (equal e nought) refl (moments_vanish w) weight c distinct nonzero bound vanish
