-- the laws of a field in which every element is its own negative, with the powers of one element that runs through it
use Rattle.std.specs.Prelude.{◌≡◌, ◌≢◌, ℕ, ◌+◌, ◌^◌, ◌<◌, ◌≤◌}

-- Sum, product, inverse and the powers of alpha over any type of elements: a field of characteristic two
-- (ISO/IEC 24778, Reed-Solomon error correction). `order` is the number of powers of alpha.
pub record IsField {A : Type 0} (nought unit : A) (plus times : A → A → A) (inverse : A → A) (power : ℕ → A) (order : ℕ) : Type 0 where
  pub add_comm : (a b : A) → plus a b ≡ plus b a
  pub add_assoc : (a b c : A) → plus (plus a b) c ≡ plus a (plus b c)
  pub add_zero : (a : A) → plus nought a ≡ a
  pub self_negative : (a : A) → plus a a ≡ nought
  pub mul_comm : (a b : A) → times a b ≡ times b a
  pub mul_assoc : (a b c : A) → times (times a b) c ≡ times a (times b c)
  pub mul_one : (a : A) → times unit a ≡ a
  pub distributes : (a b c : A) → times a (plus b c) ≡ plus (times a b) (times a c)
  pub inverts : (a : A) → a ≢ nought → times a (inverse a) ≡ unit
  pub power_zero : power 0 ≡ unit
  pub power_next : (k : ℕ) → power (k + 1) ≡ times (power k) (power 1)
  pub power_nonzero : (k : ℕ) → power k ≢ nought
  pub powers_distinct : (i j : ℕ) → i < order → j < order → power i ≡ power j → i ≡ j
  pub nonzero_power : (a : A) → a ≢ nought → (k : ℕ) × (k < order) × (power k ≡ a)

-- the number of bits of an element, and the greatest number of an element
pub record IsFieldSize (bits order : ℕ) : Type 0 where
  pub two_or_more : 2 ≤ bits
  pub twelve_or_less : bits ≤ 12
  pub order_is : order + 1 ≡ 2 ^ bits

-- elements and the numbers 0 to `order` are the same things: each has its number, and equal numbers are equal elements
pub record IsNumbering {A : Type 0} (value : A → ℕ) (order : ℕ) : Type 0 where
  pub within : (a : A) → value a ≤ order
  pub same : (a b : A) → value a ≡ value b → a ≡ b
  pub onto : (n : ℕ) → n ≤ order → (a : A) × (value a ≡ n)
