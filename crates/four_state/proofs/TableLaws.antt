-- The structure of the table of long bars, by a test that computes over it.
use Rattle.std.proofs.Common.{◌≡◌, ℕ, ◌+◌, ◌-◌, ◌<◌, ◌≤◌, Bool, true, ◌==◌, ◌&&◌, [], ◌∷◌, length, count_by, refl, subst, arith}
use Rattle.std.proofs.lemmas.Bool.{agree_below, agree_below_at, eqb-true, and_parts}
use Rattle.four_state.specs.FourState.{long_bars}
use Rattle.four_state.specs.Structure.{AreTwoOfFour, long_sum}

abbrev passes : ℕ → Bool
passes k = length (long_bars (k + 1)) == 4 && (count_by (λ bar. bar) (long_bars (k + 1)) == 2 && long_sum (4 ∷ 2 ∷ 1 ∷ 0 ∷ []) (long_bars (k + 1)) == k + 1)

all_pass : agree_below passes (λ _. true) 6 ≡ true
unfolding long_bars long_sum
all_pass = refl

two_of_four_after : (k : ℕ) → k < 6 → AreTwoOfFour (k + 1) (long_bars (k + 1))
two_of_four_after k below =
    let bars = long_bars (k + 1) in
    let parts = and_parts (length bars == 4) _ (agree_below_at passes (λ _. true) 6 k all_pass below) in
    let more = and_parts (count_by (λ bar. bar) bars == 2) _ parts.1 in
    record {
      four = eqb-true (length bars) 4 parts.0;
      two = eqb-true (count_by (λ bar. bar) bars) 2 more.0;
      weights = eqb-true (long_sum (4 ∷ 2 ∷ 1 ∷ 0 ∷ []) bars) (k + 1) more.1;
    }

pub two_of_four : (number : ℕ) → 1 ≤ number → number ≤ 6 → AreTwoOfFour number (long_bars number)
two_of_four number some small =
    let e : number - 1 + 1 ≡ number = omega arith in
    let P : ℕ → Type 0 = λ n. AreTwoOfFour n (long_bars n) in
    subst P e (two_of_four_after (number - 1) (omega arith))
