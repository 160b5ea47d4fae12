-- Sums of values by weights, one value more at a time.
use Rattle.std.proofs.Common.{◌≡◌, ℕ, suc, ◌+◌, ◌-◌, ◌*◌, ◌%◌, ◌<◌, ◌≤◌, List, ◌∷◌, length, drop, slice_index, sym, ap, ◌∙◌, arith, add_assoc, length-drop}
use Rattle.std.proofs.lemmas.List.{drop_all}
use Rattle.std.proofs.Math.Nat.{mod-add-mod}
use Rattle.std.proofs.Math.Seq.{drop-cons}
use Rattle.bar_base.specs.CheckDigit.{weighted}

-- the sum from a value on
pub weighted_more : (weight : ℕ → ℕ) (values : List ℕ) (i : ℕ) → i < length values
    → weighted weight (drop i values) ≡ weight (length values - 1 - i) * slice_index values i + weighted weight (drop (i + 1) values)
unfolding weighted
weighted_more weight values i inside =
    let e : i + 1 ≡ suc i = omega arith in
    let here : drop i values ≡ slice_index values i ∷ drop (i + 1) values = drop-cons values i 0 inside ∙ ap (λ (k : ℕ). slice_index values i ∷ drop k values) (sym e) in
    let behind : length (drop (i + 1) values) ≡ length values - 1 - i = length-drop (i + 1) values ∙ omega arith in
    ap (weighted weight) here ∙ ap (λ (n : ℕ). weight n * slice_index values i + weighted weight (drop (i + 1) values)) behind

-- behind the last value there is nothing
pub weighted_end : (weight : ℕ → ℕ) (values : List ℕ) (i : ℕ) → length values ≤ i → weighted weight (drop i values) ≡ 0
unfolding weighted
weighted_end weight values i past = ap (weighted weight) (drop_all i values past)

-- With the weighted sum of the values that are left, the number ends in the digit in which the whole sum ends.
pub record IsSummed (weight : ℕ → ℕ) (values : List ℕ) (i behind sum : ℕ) : Type 0 where
  pub there : behind + i ≡ length values
  pub small : sum < 10
  pub whole : (sum + weighted weight (drop i values)) % 10 ≡ weighted weight values % 10

pub IsSummed-none : (weight : ℕ → ℕ) (values : List ℕ) (behind : ℕ) → behind ≡ length values → IsSummed weight values 0 behind 0
IsSummed-none weight values behind is = record { there = omega arith; small = omega arith; whole = ap (λ (n : ℕ). n % 10) (omega arith) }

pub IsSummed-more : (weight : ℕ → ℕ) (values : List ℕ) (i behind sum value new : ℕ) → IsSummed weight values i behind sum → i < length values
    → slice_index values i ≡ value → new ≡ (sum + weight (behind - 1) * value) % 10 → IsSummed weight values (i + 1) (behind - 1) new
IsSummed-more weight values i behind sum value new so_far inside here is =
    let there = so_far.there in
    let place : length values - 1 - i ≡ behind - 1 = omega arith in
    let product : ℕ = weight (behind - 1) * value in
    let left : ℕ = weighted weight (drop (i + 1) values) in
    let split : weighted weight (drop i values) ≡ product + left =
    weighted_more weight values i inside
    ∙ ap (λ (n : ℕ). weight n * slice_index values i + left) place ∙ ap (λ (n : ℕ). weight (behind - 1) * n + left) here in
    record {
      there = omega arith;
      small = omega (arith, is);
      whole = ap (λ (n : ℕ). (n + left) % 10) is ∙ mod-add-mod (sum + product) 10 left
          ∙ ap (λ (n : ℕ). n % 10) (add_assoc sum product left ∙ ap (λ (n : ℕ). sum + n) (sym split)) ∙ so_far.whole;
    }

pub IsSummed-all : (weight : ℕ → ℕ) (values : List ℕ) (i behind sum : ℕ) → IsSummed weight values i behind sum → length values ≤ i → sum ≡ weighted weight values % 10
IsSummed-all weight values i behind sum so_far past =
    let small = so_far.small in
    let whole : (sum + 0) % 10 ≡ weighted weight values % 10 = ap (λ (n : ℕ). (sum + n) % 10) (sym (weighted_end weight values i past)) ∙ so_far.whole in
    let same : (sum + 0) % 10 ≡ sum = omega arith in
    sym same ∙ whole
