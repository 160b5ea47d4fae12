-- long division by a polynomial p of degree n: it respects sums, and times x goes past it
use Rattle.std.proofs.Common.{◌≡◌, ℕ, zero, suc, ◌+◌, ◌*◌, ◌^◌, ◌<◌, ◌≤◌, bit_xor, arith, ap, sym, ◌∙◌, refl}
use Rattle.std.proofs.lemmas.Nat.{pow_pos, pow-add}
use Rattle.std.proofs.lemmas.Nat.Bits.{bit_at_above}
use Rattle.std.proofs.Math.Nat.{zero-mul, one-mul, mul-one, pow-suc, add-zero, add-suc, mul_assoc, mul-le-mul_right, mul-lt-mul_of_pos_right}
use Rattle.std.specs.Int.{bit_at}
use Rattle.std.specs.Int.Bits.{xor_zero_r}
use Rattle.galois.specs.Polynomials.{remainder}
use Rattle.galois.specs.XorLaws.{Bit, off, on, coefficient, xor_four, coefficient-sum, double-sum, double-coefficient, same_degree, degree_drops, degree_reached}

-- one step: p times the power k of x taken off where the coefficient of its highest power is one
abbrev pub cleared : ℕ → ℕ → ℕ → ℕ → ℕ
cleared n p k z = bit_xor z (bit_at z (n + k) * (p * 2 ^ k))

-- x times an element: twice its number, and p taken off where that has the degree n
unfoldable pub turn : ℕ → ℕ → ℕ → ℕ
turn n p a = bit_xor (a * 2) (bit_at (a * 2) n * p)

-- which is the last step of a division
pub turn-cleared : (n p a : ℕ) → turn n p a ≡ cleared n p 0 (a * 2)
unfolding turn
turn-cleared n p a = simp (add-zero, mul-one)

-- a step on a sum gives the sum of the steps on its parts
pub cleared-sum : (n p k a b : ℕ) → cleared n p k (bit_xor a b) ≡ bit_xor (cleared n p k a) (cleared n p k b)
cleared-sum n p k a b =
    ap (bit_xor (bit_xor a b)) (coefficient-sum a b (n + k) (p * 2 ^ k))
    ∙ xor_four a b (bit_at a (n + k) * (p * 2 ^ k)) (bit_at b (n + k) * (p * 2 ^ k))

-- the remainder of a sum is the sum of the remainders
pub remainder-sum : (n p k a b : ℕ) → remainder n p k (bit_xor a b) ≡ bit_xor (remainder n p k a) (remainder n p k b)
unfolding remainder
remainder-sum n p zero a b = refl
remainder-sum n p (suc k) a b = ap (remainder n p k) (cleared-sum n p k a b) ∙ remainder-sum n p k (cleared n p k a) (cleared n p k b)

-- a step at the next power on x times z gives x times the step on z
pub cleared-double : (n p k z : ℕ) → cleared n p (suc k) (z * 2) ≡ cleared n p k z * 2
cleared-double n p k z =
    let place : bit_at (z * 2) (n + suc k) ≡ bit_at z (n + k) = ap (bit_at (z * 2)) (add-suc n k) ∙ double-coefficient z (n + k) in
    let size : bit_at z (n + k) * (p * 2 ^ suc k) ≡ bit_at z (n + k) * (p * 2 ^ k) * 2 =
    ap (λ (x : ℕ). bit_at z (n + k) * (p * x)) (pow-suc 2 k) ∙ ap (λ (x : ℕ). bit_at z (n + k) * x) (sym (mul_assoc p (2 ^ k) 2))
    ∙ sym (mul_assoc (bit_at z (n + k)) (p * 2 ^ k) 2) in
    ap (λ (x : ℕ). bit_xor (z * 2) (x * (p * 2 ^ suc k))) place ∙ ap (bit_xor (z * 2)) size
    ∙ sym (double-sum z (bit_at z (n + k) * (p * 2 ^ k)))

-- the remainder of x times z is x times the remainder of z
pub remainder-double : (n p k z : ℕ) → remainder n p (suc k) (z * 2) ≡ turn n p (remainder n p k z)
unfolding remainder
remainder-double n p zero z = sym (turn-cleared n p z)
remainder-double n p (suc k) z = ap (remainder n p (suc k)) (cleared-double n p k z) ∙ remainder-double n p k (cleared n p k z)

-- a step at a power whose coefficient is nought changes nothing
pub cleared-off : (n p k z : ℕ) → bit_at z (n + k) ≡ 0 → cleared n p k z ≡ z
cleared-off n p k z e = rw e (rw zero-mul (xor_zero_r z))

-- what is of a lower degree than p stays
pub remainder-small : (n p k z : ℕ) → z < 2 ^ n → remainder n p k z ≡ z
unfolding remainder
remainder-small n p zero z h = refl
remainder-small n p (suc k) z h =
    ap (remainder n p k) (cleared-off n p k z (bit_at_above z n (n + k) h (omega arith))) ∙ remainder-small n p k z h

-- the remainder of zero is zero
pub remainder-zero : (n p k : ℕ) → remainder n p k 0 ≡ 0
remainder-zero n p k = remainder-small n p k 0 (pow_pos n)

-- a step takes the highest coefficient away
cleared_by : (n p k z x : ℕ) → Bit x → bit_at z (n + k) ≡ x → 2 ^ n ≤ p → p < 2 ^ (n + 1) → z < 2 ^ suc (n + k)
    → bit_xor z (x * (p * 2 ^ k)) < 2 ^ (n + k)
cleared_by n p k z _ off e l u h = rw zero-mul (rw xor_zero_r (degree_drops (n + k) z h e))
cleared_by n p k z _ on e l u h =
    let low : 2 ^ (n + k) ≤ p * 2 ^ k = rw (pow-add 2 n k) (mul-le-mul_right (2 ^ k) l) in
    let more : 2 ^ suc (n + k) ≡ 2 ^ (n + 1) * 2 ^ k =
    ap (λ (x : ℕ). 2 ^ x) (omega arith) ∙ pow-add 2 (n + 1) k in
    let high : p * 2 ^ k < 2 ^ suc (n + k) = rw more (mul-lt-mul_of_pos_right u (pow_pos k)) in
    rw one-mul (same_degree (n + k) z (p * 2 ^ k) (degree_reached (n + k) z h e) h low high)

-- where p has the degree n, the step at the power k takes a polynomial of degree at most n + k to one of a degree below n + k
pub cleared_below : (n p k z : ℕ) → 2 ^ n ≤ p → p < 2 ^ (n + 1) → z < 2 ^ suc (n + k) → cleared n p k z < 2 ^ (n + k)
cleared_below n p k z l u h = cleared_by n p k z (bit_at z (n + k)) (coefficient z (n + k)) refl l u h

-- the remainder of a multiple by a coefficient, nought or one, is that multiple of the remainder
pub remainder-scaled : (n p k x m : ℕ) → Bit x → remainder n p k (x * m) ≡ x * remainder n p k m
remainder-scaled n p k _ m off = simp (zero-mul, remainder-zero)
remainder-scaled n p k _ m on = simp one-mul
