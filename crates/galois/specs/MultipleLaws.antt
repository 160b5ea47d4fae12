-- a product is a sum of multiples by powers of x, and multiples by x go past any product
use Rattle.std.proofs.Common.{◌≡◌, ℕ, zero, suc, ◌+◌, ◌*◌, ◌-◌, ◌^◌, ◌<◌, ◌≤◌, ◌%◌, bit_xor, arith, ap, sym, ◌∙◌, refl, one-add, zero-add, subst}
use Rattle.std.proofs.lemmas.Nat.{pow_pos, xor_comm, xor_lt, mod-pow-add, pow_below}
use Rattle.std.proofs.lemmas.Nat.Bits.{bit_at_above, bit_at-zero}
use Rattle.std.proofs.Math.Nat.{zero-mul, one-mul, mul-one, pow-suc, add-zero, add-suc, suc-add, mul_assoc, mod-lt, mod-one, mod-eq_of_lt}
use Rattle.std.proofs.Math.Pow.{pow_mono}
use Rattle.std.specs.Int.{bit_at}
use Rattle.std.specs.Int.Bits.{xor_self, xor_shifted}
use Rattle.galois.specs.Polynomials.{whole_product, remainder, product_of, IsPrimitive}
use Rattle.galois.specs.XorLaws.{Bit, off, on, coefficient, xor_four, coefficient-sum, scaled-sum, double-sum}
use Rattle.galois.specs.DivisionLaws.{turn, turn-cleared, cleared, cleared-sum, cleared-off, cleared_below, remainder-sum, remainder-scaled, remainder-small, remainder-zero, remainder-double}

-- the power k of x times v
unfoldable pub turned : ℕ → ℕ → ℕ → ℕ → ℕ
turned n p zero v = v
turned n p (suc k) v = turn n p (turned n p k v)

-- the powers of x in b below the power k, each times v, summed
unfoldable pub multiple : ℕ → ℕ → ℕ → ℕ → ℕ → ℕ
multiple n p zero b v = 0
multiple n p (suc k) b v = bit_xor (multiple n p k b v) (bit_at b k * turned n p k v)

-- ---- x times sums and multiples

-- x times a sum is the sum of x times each part
pub turn-sum : (n p a b : ℕ) → turn n p (bit_xor a b) ≡ bit_xor (turn n p a) (turn n p b)
turn-sum n p a b =
    turn-cleared n p (bit_xor a b) ∙ ap (cleared n p 0) (double-sum a b) ∙ cleared-sum n p 0 (a * 2) (b * 2)
    ∙ sym (ap (λ (x : ℕ). bit_xor x (turn n p b)) (turn-cleared n p a) ∙ ap (bit_xor (cleared n p 0 (a * 2))) (turn-cleared n p b))

-- x times zero is zero
pub turn-zero : (n p : ℕ) → turn n p 0 ≡ 0
turn-zero n p = turn-cleared n p 0 ∙ cleared-off n p 0 0 (bit_at-zero (n + 0))

-- x times a multiple by a coefficient, nought or one, is that multiple of x times m
pub turn-scaled : (n p x m : ℕ) → Bit x → turn n p (x * m) ≡ x * turn n p m
turn-scaled n p _ m off = ap (turn n p) (zero-mul m) ∙ turn-zero n p ∙ sym (zero-mul (turn n p m))
turn-scaled n p _ m on = ap (turn n p) (one-mul m) ∙ sym (one-mul (turn n p m))

-- x times an element is an element: below 2 ^ n
pub turn_below : {n o p : ℕ} → IsPrimitive n o p → (a : ℕ) → a < 2 ^ n → turn n p a < 2 ^ n
turn_below {n} {o} {p} h a below =
    let double : a * 2 < 2 ^ suc (n + 0) = rw (add-zero n) (omega (arith, pow-suc 2 n)) in
    let P : ℕ → Type 0 = λ k. cleared n p 0 (a * 2) < 2 ^ k in
    rw turn-cleared (subst P (add-zero n) (cleared_below n p 0 (a * 2) h.degree_reached h.degree_kept double))

-- a power of x times an element is an element: below 2 ^ n
pub turned_below : {n o p : ℕ} → IsPrimitive n o p → (k v : ℕ) → v < 2 ^ n → turned n p k v < 2 ^ n
unfolding turned
turned_below h zero v below = below
turned_below {n} {o} {p} h (suc k) v below = turn_below h (turned n p k v) (turned_below h k v below)

-- a power of x times a sum is the sum of that power times each part
pub turned-sum : (n p k a b : ℕ) → turned n p k (bit_xor a b) ≡ bit_xor (turned n p k a) (turned n p k b)
unfolding turned
turned-sum n p zero a b = refl
turned-sum n p (suc k) a b = ap (turn n p) (turned-sum n p k a b) ∙ turn-sum n p (turned n p k a) (turned n p k b)

-- a power of x times zero is zero
pub turned-zero : (n p k : ℕ) → turned n p k 0 ≡ 0
unfolding turned
turned-zero n p zero = refl
turned-zero n p (suc k) = ap (turn n p) (turned-zero n p k) ∙ turn-zero n p

-- the power k of x, times x times v, is x times the power k of x times v
pub turned-turn : (n p k v : ℕ) → turned n p k (turn n p v) ≡ turn n p (turned n p k v)
unfolding turned
turned-turn n p zero v = refl
turned-turn n p (suc k) v = ap (turn n p) (turned-turn n p k v)

-- the power j of x, times the power k of x times v, is the power j + k of x times v
pub turned-turned : (n p j k v : ℕ) → turned n p j (turned n p k v) ≡ turned n p (j + k) v
unfolding turned
turned-turned n p zero k v = ap (λ (i : ℕ). turned n p i v) (sym (zero-add k))
turned-turned n p (suc j) k v = ap (turn n p) (turned-turned n p j k v) ∙ ap (λ (i : ℕ). turned n p i v) (sym (suc-add j k))

-- ---- sums and products go past each other

-- with `multiple` read as b times v, where b counts only below the power k: a sum times v is the sum of each part times v
pub multiple-sum : (n p k b c v : ℕ) → multiple n p k (bit_xor b c) v ≡ bit_xor (multiple n p k b v) (multiple n p k c v)
unfolding multiple
multiple-sum n p zero b c v = refl
multiple-sum n p (suc k) b c v =
    ap (λ (x : ℕ). bit_xor x (bit_at (bit_xor b c) k * turned n p k v)) (multiple-sum n p k b c v)
    ∙ ap (bit_xor (bit_xor (multiple n p k b v) (multiple n p k c v))) (coefficient-sum b c k (turned n p k v))
    ∙ xor_four (multiple n p k b v) (multiple n p k c v) (bit_at b k * turned n p k v) (bit_at c k * turned n p k v)

-- b times a sum is the sum of b times each part
pub multiple-of_sum : (n p k b v w : ℕ) → multiple n p k b (bit_xor v w) ≡ bit_xor (multiple n p k b v) (multiple n p k b w)
unfolding multiple
multiple-of_sum n p zero b v w = refl
multiple-of_sum n p (suc k) b v w =
    ap (λ (x : ℕ). bit_xor x (bit_at b k * turned n p k (bit_xor v w))) (multiple-of_sum n p k b v w)
    ∙ ap (λ (x : ℕ). bit_xor (bit_xor (multiple n p k b v) (multiple n p k b w)) (bit_at b k * x)) (turned-sum n p k v w)
    ∙ ap (bit_xor (bit_xor (multiple n p k b v) (multiple n p k b w))) (scaled-sum (bit_at b k) (turned n p k v) (turned n p k w) (coefficient b k))
    ∙ xor_four (multiple n p k b v) (multiple n p k b w) (bit_at b k * turned n p k v) (bit_at b k * turned n p k w)

-- b times x times v is x times b times v
pub multiple-turn : (n p k b v : ℕ) → multiple n p k b (turn n p v) ≡ turn n p (multiple n p k b v)
unfolding multiple
multiple-turn n p zero b v = sym (turn-zero n p)
multiple-turn n p (suc k) b v =
    ap (λ (x : ℕ). bit_xor x (bit_at b k * turned n p k (turn n p v))) (multiple-turn n p k b v)
    ∙ ap (λ (x : ℕ). bit_xor (turn n p (multiple n p k b v)) (bit_at b k * x)) (turned-turn n p k v)
    ∙ ap (bit_xor (turn n p (multiple n p k b v))) (sym (turn-scaled n p (bit_at b k) (turned n p k v) (coefficient b k)))
    ∙ sym (turn-sum n p (multiple n p k b v) (bit_at b k * turned n p k v))

-- b times a power of x times v is that power of x times b times v
pub multiple-turned : (n p k b j v : ℕ) → multiple n p k b (turned n p j v) ≡ turned n p j (multiple n p k b v)
unfolding turned
multiple-turned n p k b zero v = refl
multiple-turned n p k b (suc j) v = multiple-turn n p k b (turned n p j v) ∙ ap (turn n p) (multiple-turned n p k b j v)

-- b times zero is zero
pub multiple-of_zero : (n p k b : ℕ) → multiple n p k b 0 ≡ 0
multiple-of_zero n p k b = ap (multiple n p k b) (sym (xor_self 0)) ∙ multiple-of_sum n p k b 0 0 ∙ xor_self (multiple n p k b 0)

-- b times a multiple by a coefficient, nought or one, is that multiple of b times m
pub multiple-scaled : (n p k b x m : ℕ) → Bit x → multiple n p k b (x * m) ≡ x * multiple n p k b m
multiple-scaled n p k b _ m off = ap (multiple n p k b) (zero-mul m) ∙ multiple-of_zero n p k b ∙ sym (zero-mul (multiple n p k b m))
multiple-scaled n p k b _ m on = ap (multiple n p k b) (one-mul m) ∙ sym (one-mul (multiple n p k b m))

-- b times c times v is c times b times v
pub multiple-multiple : (n p k b l c v : ℕ) → multiple n p k b (multiple n p l c v) ≡ multiple n p l c (multiple n p k b v)
unfolding multiple
multiple-multiple n p k b zero c v = multiple-of_zero n p k b
multiple-multiple n p k b (suc l) c v =
    multiple-of_sum n p k b (multiple n p l c v) (bit_at c l * turned n p l v)
    ∙ ap (λ (x : ℕ). bit_xor x (multiple n p k b (bit_at c l * turned n p l v))) (multiple-multiple n p k b l c v)
    ∙ ap (bit_xor (multiple n p l c (multiple n p k b v)))
    (multiple-scaled n p k b (bit_at c l) (turned n p l v) (coefficient c l) ∙ ap (λ (x : ℕ). bit_at c l * x) (multiple-turned n p k b l v))

scaled_below : (n x m : ℕ) → Bit x → m < 2 ^ n → x * m < 2 ^ n
scaled_below n _ m off below = rw zero-mul (pow_pos n)
scaled_below n _ m on below = rw one-mul below

-- b times an element is an element: below 2 ^ n
pub multiple_below : {n o p : ℕ} → IsPrimitive n o p → (k b v : ℕ) → v < 2 ^ n → multiple n p k b v < 2 ^ n
unfolding multiple
multiple_below {n} h zero b v below = pow_pos n
multiple_below {n} {o} {p} h (suc k) b v below =
    xor_lt n (multiple n p k b v) (bit_at b k * turned n p k v) (multiple_below h k b v below)
    (scaled_below n (bit_at b k) (turned n p k v) (coefficient b k) (turned_below h k v below))

-- ---- one times b is b

-- the power k of x times one, where k is below n, is the number 2 ^ k
pub turned-one : (n p k : ℕ) → k < n → turned n p k 1 ≡ 2 ^ k
unfolding turned
turned-one n p zero below = refl
turned-one n p (suc k) below =
    let more : 2 ^ k * 2 ≡ 2 ^ suc k = sym (pow-suc 2 k) in
    let small : 2 ^ k * 2 < 2 ^ n = rw more (pow_below (suc k) n below) in
    ap (turn n p) (turned-one n p k (omega arith))
    ∙ turn-cleared n p (2 ^ k) ∙ cleared-off n p 0 (2 ^ k * 2) (bit_at_above (2 ^ k * 2) n (n + 0) small (omega arith)) ∙ more

-- the part of b below the power k, times one, is that part itself, where k is at most n
pub multiple-one : (n p k b : ℕ) → k ≤ n → multiple n p k b 1 ≡ b % 2 ^ k
unfolding multiple
multiple-one n p zero b below = sym (mod-one b)
multiple-one n p (suc k) b below =
    let rest : b % 2 ^ k < 2 ^ k = mod-lt b (pow_pos k) in
    ap (λ (x : ℕ). bit_xor x (bit_at b k * turned n p k 1)) (multiple-one n p k b (omega arith))
    ∙ ap (λ (x : ℕ). bit_xor (b % 2 ^ k) (bit_at b k * x)) (turned-one n p k (omega arith))
    ∙ xor_comm (b % 2 ^ k) (bit_at b k * 2 ^ k) ∙ xor_shifted (bit_at b k) k (b % 2 ^ k) rest
    ∙ sym (mod-pow-add b 1 k) ∙ ap (λ (i : ℕ). b % 2 ^ i) (one-add k)

-- ---- the product of two elements

-- the remainder, by j steps or more, of a times 2 ^ j is the power j of x times a, where a is an element
pub remainder-shifted : (n p d j a : ℕ) → a < 2 ^ n → remainder n p (d + j) (a * 2 ^ j) ≡ turned n p j a
unfolding turned
remainder-shifted n p d zero a below = remainder-small n p (d + 0) (a * 1) (rw mul-one below) ∙ mul-one a
remainder-shifted n p d (suc j) a below =
    ap (λ (k : ℕ). remainder n p k (a * 2 ^ suc j)) (add-suc d j)
    ∙ ap (remainder n p (suc (d + j))) (ap (λ (x : ℕ). a * x) (pow-suc 2 j) ∙ sym (mul_assoc a (2 ^ j) 2))
    ∙ remainder-double n p (d + j) (a * 2 ^ j) ∙ ap (turn n p) (remainder-shifted n p d j a below)

-- the same for the remainder by n steps, where j is at most n
pub remainder-term : (n p j a : ℕ) → a < 2 ^ n → j ≤ n → remainder n p n (a * 2 ^ j) ≡ turned n p j a
remainder-term n p j a below within = ap (λ (k : ℕ). remainder n p k (a * 2 ^ j)) (omega arith) ∙ remainder-shifted n p (n - j) j a below

-- the remainder of the product of a and the part of b below the power k is the sum of the powers of x in that part, each times a
pub whole-multiple : (n p k a b : ℕ) → a < 2 ^ n → k ≤ n → remainder n p n (whole_product k a b) ≡ multiple n p k b a
unfolding multiple whole_product
whole-multiple n p zero a b below within = remainder-zero n p n
whole-multiple n p (suc k) a b below within =
    remainder-sum n p n (whole_product k a b) (bit_at b k * (a * 2 ^ k))
    ∙ ap (λ (x : ℕ). bit_xor x (remainder n p n (bit_at b k * (a * 2 ^ k)))) (whole-multiple n p k a b below (omega arith))
    ∙ ap (bit_xor (multiple n p k b a))
    (remainder-scaled n p n (bit_at b k) (a * 2 ^ k) (coefficient b k) ∙ ap (λ (x : ℕ). bit_at b k * x) (remainder-term n p k a below (omega arith)))

-- the product of an element a and b is the sum of the powers of x in b below the power n, each times a
pub product-multiple : (n p a b : ℕ) → a < 2 ^ n → product_of n p a b ≡ multiple n p n b a
unfolding product_of
product-multiple n p a b below = whole-multiple n p n a b below (omega arith)

-- ---- the laws of the product, at elements below 2 ^ n

-- the product of an element and any number is an element: below 2 ^ n
pub product_below : {n o p : ℕ} → IsPrimitive n o p → (a b : ℕ) → a < 2 ^ n → product_of n p a b < 2 ^ n
product_below {n} {o} {p} h a b below = rw (product-multiple n p a b below) (multiple_below h n b a below)

-- the powers of x in an element, each times one, sum to the element
pub one-multiple : (n p b : ℕ) → b < 2 ^ n → multiple n p n b 1 ≡ b
one-multiple n p b below = multiple-one n p n b (omega arith) ∙ mod-eq_of_lt below

-- one is below 2 ^ n
pub one_below : {n o p : ℕ} → IsPrimitive n o p → 1 < 2 ^ n
one_below {n} h = let four : 2 ^ 2 ≤ 2 ^ n = pow_mono h.two_or_more in omega arith

-- one times an element is the element
pub product-one : {n o p : ℕ} → IsPrimitive n o p → (a : ℕ) → a < 2 ^ n → product_of n p 1 a ≡ a
product-one {n} {o} {p} h a below = product-multiple n p 1 a (one_below h) ∙ one-multiple n p a below

-- the product of two elements is the same in either order
pub product_comm : (n p a b : ℕ) → a < 2 ^ n → b < 2 ^ n → product_of n p a b ≡ product_of n p b a
product_comm n p a b ab bb =
    product-multiple n p a b ab ∙ ap (multiple n p n b) (sym (one-multiple n p a ab)) ∙ multiple-multiple n p n b n a 1
    ∙ ap (multiple n p n a) (one-multiple n p b bb) ∙ sym (product-multiple n p b a bb)

-- an element times a sum is the sum of its products with the parts
pub product-sum : (n p a b c : ℕ) → a < 2 ^ n → product_of n p a (bit_xor b c) ≡ bit_xor (product_of n p a b) (product_of n p a c)
product-sum n p a b c ab =
    product-multiple n p a (bit_xor b c) ab ∙ multiple-sum n p n b c a
    ∙ ap (λ (x : ℕ). bit_xor x (multiple n p n c a)) (sym (product-multiple n p a b ab))
    ∙ ap (bit_xor (product_of n p a b)) (sym (product-multiple n p a c ab))

-- the product of three elements is the same whichever two are multiplied first
pub product_assoc : {n o p : ℕ} → IsPrimitive n o p → (a b c : ℕ) → a < 2 ^ n → b < 2 ^ n → c < 2 ^ n
    → product_of n p (product_of n p a b) c ≡ product_of n p a (product_of n p b c)
product_assoc {n} {o} {p} h a b c ab bb cb =
    product-multiple n p (product_of n p a b) c (product_below h a b ab)
    ∙ ap (multiple n p n c) (product_comm n p a b ab bb ∙ product-multiple n p b a bb)
    ∙ multiple-multiple n p n c n a b
    ∙ ap (multiple n p n a) (sym (product-multiple n p b c bb))
    ∙ sym (product-multiple n p (product_of n p b c) a (product_below h b c bb))
    ∙ product_comm n p (product_of n p b c) a (product_below h b c bb) ab
