-- tables of the powers of alpha and of their exponents
use Rattle.std.specs.Prelude.{◌≡◌, ℕ, ◌+◌, ◌*◌, ◌<◌, ◌≤◌, List, length, slice_index_or}

-- The first `count` powers of alpha by their numbers, each again `order` places behind, and for the number of each its exponent.
pub record AreTables {A : Type 0} (value : A → ℕ) (power : ℕ → A) (order count : ℕ) (powers exponents : List ℕ) : Type 0 where
  pub powers_long : 2 * order ≤ length powers
  pub exponents_long : order < length exponents
  pub power_is : (k : ℕ) → k < count → slice_index_or powers k 0 ≡ value (power k)
  pub power_again : (k : ℕ) → k < count → slice_index_or powers (order + k) 0 ≡ value (power k)
  pub exponent_is : (k : ℕ) → k < count → slice_index_or exponents (value (power k)) 0 ≡ k
