-- what sums of polynomials, the exclusive-or of their numbers, have to do with coefficients and powers of x
use Rattle.std.proofs.Common.{◌≡◌, ℕ, zero, suc, ◌+◌, ◌*◌, ◌-◌, ◌^◌, ◌%◌, ◌<◌, ◌≤◌, bit_xor, arith, ap, sym, ◌∙◌, one-add}
use Rattle.std.proofs.lemmas.Nat.{xor_comm, xor_block, xor_lt, mod-pow-add, pow_pos}
use Rattle.std.proofs.lemmas.Nat.Bits.{bit_at_xor, bit_at-lt, bit_at-suc}
use Rattle.std.proofs.Math.Nat.{mul-div_left, zero-mul, one-mul, add-zero, pow-suc, mod-lt, mod-eq_of_lt}
use Rattle.std.specs.Int.{bit_at}
use Rattle.std.specs.Int.Bits.{xor_assoc, xor_self, xor_zero_l, xor_zero_r}

-- a coefficient is nought or one
pub data Bit : ℕ → Type 0 where
  off : Bit 0
  on : Bit 1

-- a number below 2 is nought or one
pub bit_of : (m : ℕ) → m < 2 → Bit m
bit_of zero h = off
bit_of (suc zero) h = on
bit_of (suc (suc m)) h = absurd (omega arith)

-- every coefficient of a polynomial is nought or one
pub coefficient : (a i : ℕ) → Bit (bit_at a i)
coefficient a i = bit_of (bit_at a i) (bit_at-lt a i)

-- a sum of four, two and two
pub xor_four : (a b c d : ℕ) → bit_xor (bit_xor a b) (bit_xor c d) ≡ bit_xor (bit_xor a c) (bit_xor b d)
xor_four a b c d =
    xor_assoc a b (bit_xor c d) ∙ ap (bit_xor a) (sym (xor_assoc b c d) ∙ ap (λ (x : ℕ). bit_xor x d) (xor_comm b c) ∙ xor_assoc c b d)
    ∙ sym (xor_assoc a c (bit_xor b d))

-- a multiple of a sum's coefficient is the sum of the multiples
pub scaled_sum : (x y m : ℕ) → Bit x → Bit y → (x + y) % 2 * m ≡ bit_xor (x * m) (y * m)
scaled_sum _ _ m off off = simp (zero-mul, xor_self)
scaled_sum _ _ m off on = simp (zero-mul, one-mul, xor_zero_l)
scaled_sum _ _ m on off = simp (zero-mul, one-mul, xor_zero_r)
scaled_sum _ _ m on on = simp (zero-mul, one-mul, xor_self)

-- a multiple by a sum's coefficient is the sum of the multiples by the coefficients of its parts
pub coefficient-sum : (a b i m : ℕ) → bit_at (bit_xor a b) i * m ≡ bit_xor (bit_at a i * m) (bit_at b i * m)
coefficient-sum a b i m = ap (λ (x : ℕ). x * m) (bit_at_xor a b i) ∙ scaled_sum (bit_at a i) (bit_at b i) m (coefficient a i) (coefficient b i)

-- a coefficient goes into a sum
pub scaled-sum : (x a b : ℕ) → Bit x → x * bit_xor a b ≡ bit_xor (x * a) (x * b)
scaled-sum _ a b off = simp (zero-mul, xor_self)
scaled-sum _ a b on = simp one-mul

-- x times a sum
pub double-sum : (a b : ℕ) → bit_xor a b * 2 ≡ bit_xor (a * 2) (b * 2)
double-sum a b = sym (simp add-zero at (xor_block 1 a b 0 0 (omega arith) (omega arith)))

-- the coefficient of the power i + 1 in x times a is that of the power i in a
pub double-coefficient : (a i : ℕ) → bit_at (a * 2) (suc i) ≡ bit_at a i
double-coefficient a i = bit_at-suc (a * 2) i ∙ ap (λ (x : ℕ). bit_at x i) (mul-div_left a {n = 2} (omega arith))

-- two polynomials of one degree have a sum of a lower one
pub same_degree : (m a b : ℕ) → 2 ^ m ≤ a → a < 2 ^ suc m → 2 ^ m ≤ b → b < 2 ^ suc m → bit_xor a b < 2 ^ m
same_degree m a b al au bl bu =
    let r : a - 2 ^ m < 2 ^ m = omega (arith, pow-suc 2 m) in
    let s : b - 2 ^ m < 2 ^ m = omega (arith, pow-suc 2 m) in
    let ea : a ≡ 1 * 2 ^ m + (a - 2 ^ m) = omega (arith, one-mul (2 ^ m)) in
    let eb : b ≡ 1 * 2 ^ m + (b - 2 ^ m) = omega (arith, one-mul (2 ^ m)) in
    let e : bit_xor a b ≡ bit_xor (1 * 2 ^ m + (a - 2 ^ m)) (1 * 2 ^ m + (b - 2 ^ m)) = cc (ap (λ (x : ℕ). bit_xor a x) eb, ap (λ (x : ℕ). bit_xor x (1 * 2 ^ m + (b - 2 ^ m))) ea) in
    let f = xor_block m 1 1 (a - 2 ^ m) (b - 2 ^ m) r s in
    let g = xor_lt m (a - 2 ^ m) (b - 2 ^ m) r s in
    omega (arith, e, f, g, zero-mul (2 ^ m))

-- the highest coefficient and the rest
pub highest : (m z : ℕ) → z < 2 ^ suc m → z ≡ bit_at z m * 2 ^ m + z % 2 ^ m
highest m z h =
    let small : z % 2 ^ suc m ≡ z = mod-eq_of_lt h in
    sym small ∙ ap (λ (k : ℕ). z % 2 ^ k) (sym (one-add m)) ∙ mod-pow-add z 1 m

-- one coefficient less
pub degree_drops : (m z : ℕ) → z < 2 ^ suc m → bit_at z m ≡ 0 → z < 2 ^ m
degree_drops m z h e =
    let r : z % 2 ^ m < 2 ^ m = mod-lt z (pow_pos m) in
    let split : z ≡ 0 * 2 ^ m + z % 2 ^ m = rw e at (highest m z h) in
    omega (arith, split, r, zero-mul (2 ^ m))

-- where the coefficient of the highest power m is one, the polynomial has the degree m
pub degree_reached : (m z : ℕ) → z < 2 ^ suc m → bit_at z m ≡ 1 → 2 ^ m ≤ z
degree_reached m z h e =
    let split : z ≡ 1 * 2 ^ m + z % 2 ^ m = rw e at (highest m z h) in
    omega (arith, split, one-mul (2 ^ m))
