-- polynomials with bits as coefficients, written as numbers: bit k is the coefficient of the power k of x
use Rattle.std.specs.Prelude.{◌≡◌, ◌≢◌, ℕ, zero, suc, ◌+◌, ◌*◌, ◌^◌, ◌<◌, ◌≤◌, bit_xor}
use Rattle.std.specs.Int.{bit_at}

-- The product of a by the part of b below the power k of x: a times each power of x in it, summed
-- (ISO/IEC 24778, Reed-Solomon error correction: products of polynomials over the field of two elements).
unfoldable pub whole_product : ℕ → ℕ → ℕ → ℕ
whole_product zero a b = 0
whole_product (suc k) a b = bit_xor (whole_product k a b) (bit_at b k * (a * 2 ^ k))

-- The remainder by p, of degree n, of a z of degree below n + k, by long division: from the highest power
-- down, p times a power of x is taken off where the coefficient is one.
unfoldable pub remainder : ℕ → ℕ → ℕ → ℕ → ℕ
remainder n p zero z = z
remainder n p (suc k) z = remainder n p k (bit_xor z (bit_at z (n + k) * (p * 2 ^ k)))

-- The product of two elements: the whole product's remainder (ISO/IEC 24778, Reed-Solomon error correction).
unfoldable pub product_of : ℕ → ℕ → ℕ → ℕ → ℕ
product_of n p a b = remainder n p n (whole_product n a b)

-- a times itself, k factors; one where there are none
unfoldable pub power_of : ℕ → ℕ → ℕ → ℕ → ℕ
power_of n p a zero = 1
power_of n p a (suc k) = product_of n p (power_of n p a k) a

-- A polynomial by which every power of x below `order` has another remainder: its degree is `bits`, and the
-- least positive power of x whose remainder is one is the power `order` (ISO/IEC 24778, Reed-Solomon error
-- correction: each of its polynomials is primitive).
pub record IsPrimitive (bits order poly : ℕ) : Type 0 where
  pub two_or_more : 2 ≤ bits
  pub twelve_or_less : bits ≤ 12
  pub order_is : order + 1 ≡ 2 ^ bits
  pub degree_reached : 2 ^ bits ≤ poly
  pub degree_kept : poly < 2 ^ (bits + 1)
  pub comes_back : remainder bits poly order (2 ^ order) ≡ 1
  pub not_before : (k : ℕ) → 0 < k → k < order → remainder bits poly k (2 ^ k) ≢ 1
