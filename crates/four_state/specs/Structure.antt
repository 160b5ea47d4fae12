-- How the table of long bars is built (RM4SCC, symbol characters).
use Rattle.std.specs.Prelude.{◌≡◌, ℕ, ◌+◌, Bool, List, [], ◌∷◌, length, count_by, if◌then◌else◌}

-- The sum of the weights of the long bars.
unfoldable pub long_sum : (weights : List ℕ) → (bars : List Bool) → ℕ
long_sum [] bars = 0
long_sum (weight ∷ weights) [] = 0
long_sum (weight ∷ weights) (bar ∷ bars) = (if bar then weight else 0) + long_sum weights bars

-- Two of four bars are long, and their weights 4, 2, 1 and 0 sum to the number.
pub record AreTwoOfFour (number : ℕ) (bars : List Bool) : Type 0 where
  pub four : length bars ≡ 4
  pub two : count_by (λ bar. bar) bars ≡ 2
  pub weights : long_sum (4 ∷ 2 ∷ 1 ∷ 0 ∷ []) bars ≡ number
