-- the terms of a locator's value, from place to place
use Rattle.std.proofs.Common.{◌≡◌, ℕ, suc, ◌+◌, ◌*◌, ◌-◌, ◌<◌, ◌≤◌, sym, ◌∙◌, ap, refl, arith, List, [], ◌∷◌, ◌++◌, length, take, drop, set, get_or}
use Rattle.std.proofs.Math.Nat.{mul-zero, mul-suc}
use Rattle.std.proofs.lemmas.List.{length-drop}
use Rattle.galois.specs.Field.{IsField}
use Rattle.galois.specs.CheckWord.{weighted_sum}
use Rattle.galois.specs.Coefficients.{total}
use Rattle.galois.specs.Locator.{locator_value}
use Rattle.galois.proofs.Sums.{mul_unit, mul_assoc, power_add}
use Rattle.rs_decode.specs.Search.{next_terms, terms_at}
use Rattle.rs_decode.proofs.Loops.{changed_step, changed_all}

module _ {A : Type 0} {nought unit : A} {plus times : A → A → A} {inverse : A → A} {power : ℕ → A} {order : ℕ} (laws : IsField nought unit plus times inverse power order) where
  pub next_step : (terms : List A) (i : ℕ) (x v : A) → i < length terms → x ≡ get_or terms i x → v ≡ times x (power (length terms - 1 - i)) →
      take (i + 1) (set terms i v) ++ next_terms times power (drop (i + 1) (set terms i v)) ≡ take i terms ++ next_terms times power (drop i terms)
  unfolding next_terms
  next_step terms i x v within is is_v =
      let left : length terms - 1 - i ≡ length (drop (suc i) terms) = let e : length (drop (suc i) terms) ≡ length terms - suc i = length-drop (suc i) terms in omega (arith, e) in
      changed_step {S = ℕ} (λ _ l. next_terms times power l) terms i 0 0 x v within is (ap (λ y. y ∷ next_terms times power (drop (suc i) terms)) (sym (is_v ∙ ap (λ (k : ℕ). times x (power k)) left)))

  pub next_all : (terms : List A) (i : ℕ) → length terms ≤ i → take i terms ++ next_terms times power (drop i terms) ≡ terms
  unfolding next_terms
  next_all terms i past = changed_all {S = ℕ} (λ _ l. next_terms times power l) terms i 0 past refl

  length-terms_at : (locator : List A) (m : ℕ) → length (terms_at times power locator m) ≡ length locator
  unfolding terms_at
  length-terms_at [] m = refl
  length-terms_at (a ∷ locator) m = ap suc (length-terms_at locator m)

  -- the terms at one place after another
  pub first_terms : (locator : List A) → locator ≡ terms_at times power locator 0
  unfolding terms_at
  first_terms [] = refl
  first_terms (a ∷ locator) = rw (mul-zero (length locator), laws.power_zero, mul_unit laws a, ← first_terms locator) refl

  pub terms_next : (locator : List A) (m : ℕ) → next_terms times power (terms_at times power locator m) ≡ terms_at times power locator (suc m)
  unfolding terms_at next_terms
  terms_next [] m = refl
  terms_next (a ∷ locator) m =
      let power_is : power (length locator * suc m) ≡ times (power (length locator * m)) (power (length locator)) =
      ap power (mul-suc (length locator) m) ∙ power_add laws (length locator * m) (length locator) in
      rw (terms_next locator m, length-terms_at locator m, power_is, mul_assoc laws a (power (length locator * m)) (power (length locator))) refl

  pub terms_total : (locator : List A) (m : ℕ) → total nought plus (terms_at times power locator m) ≡ locator_value nought plus times power locator m
  unfolding terms_at total locator_value weighted_sum
  terms_total [] m = refl
  terms_total (a ∷ locator) m = rw (terms_total locator m) refl
