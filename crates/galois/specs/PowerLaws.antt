-- the powers of x run through every element but zero, each comes once, and then they come back to one
use Rattle.std.proofs.Common.{◌≡◌, ◌≢◌, ℕ, zero, suc, ◌+◌, ◌*◌, ◌-◌, ◌^◌, ◌/◌, ◌%◌, ◌<◌, ◌≤◌, ◌⊎◌, inl, inr, List, [], ◌∷◌, length, true, false, arith, ap, sym, ◌∙◌, refl, zero-add, add-one, pow_mono}
use Rattle.std.proofs.Math.Dec.{eqb}
use Rattle.std.proofs.Math.Nat.{zero-mul, one-mul, mul_comm, suc-mul, mod-add-div', add-zero, add-suc}
use Rattle.std.proofs.lemmas.Bool.{ne_eqb, cases_order}
use Rattle.std.proofs.lemmas.Bool.Decides.{eqb_tells}
use Rattle.std.proofs.lemmas.Map.Steps.{length-le_from_distinct_below}
use Rattle.std.specs.List.{IsDistinct, AllByRecursion, list_any}
use Rattle.galois.specs.Polynomials.{remainder, product_of, power_of, IsPrimitive}
use Rattle.galois.specs.DivisionLaws.{turn}
use Rattle.galois.specs.MultipleLaws.{turned, multiple, turned_below, turned-turn, turned-turned, turned-one, turned-zero, multiple-turn, multiple-turned, one-multiple, one_below, remainder-shifted, product-multiple, product_below, product_comm, product_assoc, product-one}

-- alpha is the polynomial x, which is one times x
pub two_is : {n o p : ℕ} → IsPrimitive n o p → turn n p 1 ≡ 2
unfolding turned
two_is {n} {o} {p} h = turned-one n p 1 (omega (arith, h.two_or_more))

-- alpha, the number 2, is an element: below 2 ^ n
pub two_below : {n o p : ℕ} → IsPrimitive n o p → 2 < 2 ^ n
two_below {n} h = let four : 2 ^ 2 ≤ 2 ^ n = pow_mono h.two_or_more in omega arith

-- the order is at least 3
pub order_positive : {n o p : ℕ} → IsPrimitive n o p → 3 ≤ o
order_positive {n} h = let four : 2 ^ 2 ≤ 2 ^ n = pow_mono h.two_or_more in omega (arith, h.order_is)

-- the power 0 of an element is one
pub power-zero : (n p a : ℕ) → power_of n p a 0 ≡ 1
unfolding power_of
power-zero n p a = refl

-- the power k + 1 of an element is its power k times the element
pub power-next : (n p a k : ℕ) → power_of n p a (k + 1) ≡ product_of n p (power_of n p a k) a
unfolding power_of
power-next n p a k = ap (power_of n p a) (add-one k)

-- the power 1 of an element is the element
pub power-one : {n o p : ℕ} → IsPrimitive n o p → (a : ℕ) → a < 2 ^ n → power_of n p a 1 ≡ a
unfolding power_of
power-one h a below = product-one h a below

-- the power k of alpha is the power k of x times one
pub power-turned : {n o p : ℕ} → IsPrimitive n o p → (k : ℕ) → power_of n p 2 k ≡ turned n p k 1
unfolding power_of turned
power-turned h zero = refl
power-turned {n} {o} {p} h (suc k) =
    let below : turned n p k 1 < 2 ^ n = turned_below h k 1 (one_below h) in
    ap (λ (x : ℕ). product_of n p x 2) (power-turned h k)
    ∙ product_comm n p (turned n p k 1) 2 below (two_below h)
    ∙ product-multiple n p 2 (turned n p k 1) (two_below h)
    ∙ ap (multiple n p n (turned n p k 1)) (sym (two_is h))
    ∙ multiple-turn n p n (turned n p k 1) 1
    ∙ ap (turn n p) (one-multiple n p (turned n p k 1) below)

-- ---- back to one after `order` steps

-- the power `order` of x is one
pub comes_round : {n o p : ℕ} → IsPrimitive n o p → turned n p o 1 ≡ 1
comes_round {n} {o} {p} h =
    sym (remainder-shifted n p 0 o 1 (one_below h)) ∙ ap (λ (k : ℕ). remainder n p k (1 * 2 ^ o)) (zero-add o)
    ∙ ap (remainder n p o) (one-mul (2 ^ o)) ∙ h.comes_back

-- the power `order` of x times an element is the element
pub round : {n o p : ℕ} → IsPrimitive n o p → (v : ℕ) → v < 2 ^ n → turned n p o v ≡ v
round {n} {o} {p} h v below =
    ap (turned n p o) (sym (one-multiple n p v below)) ∙ sym (multiple-turned n p n v o 1)
    ∙ ap (multiple n p n v) (comes_round h) ∙ one-multiple n p v below

-- x times two elements is one element only where they are one
pub turn-injective : {n o p : ℕ} → IsPrimitive n o p → (v w : ℕ) → v < 2 ^ n → w < 2 ^ n → turn n p v ≡ turn n p w → v ≡ w
unfolding turned
turn-injective {n} {o} {p} h v w vb wb e =
    let some : o ≡ suc (o - 1) = omega (arith, order_positive h) in
    let back : (u : ℕ) → u < 2 ^ n → turned n p (o - 1) (turn n p u) ≡ u =
    λ u ub. turned-turn n p (o - 1) u ∙ ap (λ (k : ℕ). turned n p k u) (sym some) ∙ round h u ub in
    sym (back v vb) ∙ ap (turned n p (o - 1)) e ∙ back w wb

-- a power of x times two elements is one element only where they are one
pub turned-injective : {n o p : ℕ} → IsPrimitive n o p → (k v w : ℕ) → v < 2 ^ n → w < 2 ^ n → turned n p k v ≡ turned n p k w → v ≡ w
unfolding turned
turned-injective h zero v w vb wb e = e
turned-injective {n} {o} {p} h (suc k) v w vb wb e =
    turned-injective h k v w vb wb
    (turn-injective h (turned n p k v) (turned n p k w) (turned_below h k v vb) (turned_below h k w wb) e)

-- no power of x is zero
pub turned-nonzero : {n o p : ℕ} → IsPrimitive n o p → (k : ℕ) → turned n p k 1 ≢ 0
turned-nonzero {n} {o} {p} h k e =
    let same : ◌≡◌ {A = ℕ} 1 0 = turned-injective h k 1 0 (one_below h) (omega (arith, one_below h)) (e ∙ sym (turned-zero n p k)) in
    absurd (omega arith)

-- no power of x above the power 0 and below the power `order` is one
pub turned-not_one : {n o p : ℕ} → IsPrimitive n o p → (k : ℕ) → 0 < k → k < o → turned n p k 1 ≢ 1
turned-not_one {n} {o} {p} h k some less e =
    h.not_before k some less
    (ap (remainder n p k) (sym (one-mul (2 ^ k))) ∙ ap (λ (i : ℕ). remainder n p i (1 * 2 ^ k)) (sym (zero-add k))
    ∙ remainder-shifted n p 0 k 1 (one_below h) ∙ e)

turned_apart : {n o p : ℕ} → IsPrimitive n o p → (i j : ℕ) → i < j → j < o → turned n p i 1 ≢ turned n p j 1
turned_apart {n} {o} {p} h i j less below e =
    let far : turned n p i (turned n p (j - i) 1) ≡ turned n p j 1 =
    turned-turned n p i (j - i) 1 ∙ (let k : i + (j - i) ≡ j = omega arith in ap (λ (k : ℕ). turned n p k 1) k) in
    let same : 1 ≡ turned n p (j - i) 1 =
    turned-injective h i 1 (turned n p (j - i) 1) (one_below h) (turned_below h (j - i) 1 (one_below h)) (e ∙ sym far) in
    turned-not_one h (j - i) (omega arith) (omega arith) (sym same)

-- two powers of x below the power `order` are equal only where their exponents are
pub turned_distinct : {n o p : ℕ} → IsPrimitive n o p → (i j : ℕ) → i < o → j < o → turned n p i 1 ≡ turned n p j 1 → i ≡ j
turned_distinct h i j ib jb e =
    elim (cases_order i j) [
      | inl same ↦ same
      | inr other ↦ elim other [ inl less ↦ absurd (turned_apart h i j less jb e) | inr more ↦ absurd (turned_apart h j i more ib (sym e)) ]
    ]

-- ---- every element but zero is a power of x

abbrev powers : ℕ → ℕ → ℕ → List ℕ
powers n p zero = []
powers n p (suc k) = turned n p k 1 ∷ powers n p k

length-powers : (n p k : ℕ) → length (powers n p k) ≡ k
length-powers n p zero = refl
length-powers n p (suc k) = ap suc (length-powers n p k)

abbrev IsPowerBelow : ℕ → ℕ → ℕ → ℕ → Type 0
IsPowerBelow n p k a = (i : ℕ) × (i < k) × (turned n p i 1 ≡ a)

powers_below : {n o p : ℕ} → IsPrimitive n o p → (k : ℕ) → AllByRecursion (λ y. y < 2 ^ n) (powers n p k)
powers_below h zero = tt
powers_below {n} {o} {p} h (suc k) = (turned_below h k 1 (one_below h), powers_below h k)

one_of_below : (m q : ℕ) (xs : List ℕ) → AllByRecursion (λ y. y < m) xs → list_any (eqb q) xs ≡ true → q < m
one_of_below m q [] all found = absurd (cc)
one_of_below m q (x ∷ xs) all found =
    elim (eqb_tells q x) [
      | inl same ↦ let below : x < m = all.0 in omega (arith, same.1)
      | inr other ↦ one_of_below m q xs all.1 (rw other.0 at found)
    ]

other_powers : (n p k a : ℕ) → ((i : ℕ) → i < k → turned n p i 1 ≢ a) → AllByRecursion (λ y. eqb a y ≡ false) (powers n p k)
other_powers n p zero a none = tt
other_powers n p (suc k) a none =
    (ne_eqb a (turned n p k 1) (λ e. none k (omega arith) (sym e)), other_powers n p k a (λ i less. none i (omega arith)))

powers-distinct : {n o p : ℕ} → IsPrimitive n o p → (k : ℕ) → k ≤ o → IsDistinct eqb (powers n p k)
unfolding IsDistinct
powers-distinct h zero within = tt
powers-distinct {n} {o} {p} h (suc k) within =
    (other_powers n p k (turned n p k 1) (λ i less e. turned_apart h i k less (omega arith) e), powers-distinct h k (omega arith))

power_or_not : (n p k a : ℕ) → IsPowerBelow n p k a ⊎ ((i : ℕ) → i < k → turned n p i 1 ≢ a)
power_or_not n p zero a = inr (λ i less. absurd (omega arith))
power_or_not n p (suc k) a =
    elim (power_or_not n p k a) [
      | inl found ↦ inl (found.0, omega (arith, found.1), found.2)
      | inr none ↦ elim (eqb_tells (turned n p k 1) a) [
        | inl same ↦ inl (k, omega arith, same.1)
        | inr other ↦ inr (λ i less e. elim (cases_order i k) [
          | inl last ↦ other.1 (ap (λ (j : ℕ). turned n p j 1) (sym last) ∙ e)
          | inr before ↦ elim before [ inl earlier ↦ none i earlier e | inr later ↦ absurd (omega arith) ]
        ])
      ]
    ]

-- an element that is neither zero nor a power would be one too many
too_many : {n o p : ℕ} → IsPrimitive n o p → (a : ℕ) → 0 < a → a < 2 ^ n → ((i : ℕ) → i < o → turned n p i 1 ≢ a) → ⊥
unfolding IsDistinct
too_many {n} {o} {p} h a some below none =
    let apart : IsDistinct eqb (0 ∷ a ∷ powers n p o) = (
      (ne_eqb 0 a (λ e. absurd (omega arith)), other_powers n p o 0 (λ i less e. turned-nonzero h i e)),
      (other_powers n p o a none, powers-distinct h o (omega arith)),
    ) in
    let count = length-le_from_distinct_below (0 ∷ a ∷ powers n p o) (2 ^ n) apart (λ q. one_of_below (2 ^ n) q (0 ∷ a ∷ powers n p o) (omega arith, (below, powers_below h o))) in
    omega (arith, count, length-powers n p o, h.order_is)

-- every element but zero is a power of x below the power `order`
pub is_power : {n o p : ℕ} → IsPrimitive n o p → (a : ℕ) → 0 < a → a < 2 ^ n → IsPowerBelow n p o a
is_power {n} {o} {p} h a some below =
    elim (power_or_not n p o a) [ inl found ↦ found | inr none ↦ absurd (too_many h a some below none) ]

-- ---- the inverse

turned-rounds : {n o p : ℕ} → IsPrimitive n o p → (i : ℕ) → turned n p (i * o) 1 ≡ 1
unfolding turned
turned-rounds {n} {o} {p} h zero = ap (λ (k : ℕ). turned n p k 1) (zero-mul o) ∙ refl
turned-rounds {n} {o} {p} h (suc i) =
    ap (λ (k : ℕ). turned n p k 1) (suc-mul i o) ∙ sym (turned-turned n p (i * o) o 1)
    ∙ ap (turned n p (i * o)) (comes_round h) ∙ turned-rounds h i

power-of_turned : {n o p : ℕ} → IsPrimitive n o p → (i k : ℕ) → power_of n p (turned n p i 1) k ≡ turned n p (k * i) 1
unfolding power_of turned
power-of_turned {n} {o} {p} h i zero = ap (λ (k : ℕ). turned n p k 1) (sym (zero-mul i))
power-of_turned {n} {o} {p} h i (suc k) =
    ap (λ (x : ℕ). product_of n p x (turned n p i 1)) (power-of_turned h i k)
    ∙ product-multiple n p (turned n p (k * i) 1) (turned n p i 1) (turned_below h (k * i) 1 (one_below h))
    ∙ multiple-turned n p n (turned n p i 1) (k * i) 1
    ∙ ap (turned n p (k * i)) (one-multiple n p (turned n p i 1) (turned_below h i 1 (one_below h)))
    ∙ turned-turned n p (k * i) i 1 ∙ ap (λ (j : ℕ). turned n p j 1) (sym (suc-mul k i))

-- a power of an element is an element: below 2 ^ n
pub power_below : {n o p : ℕ} → IsPrimitive n o p → (a k : ℕ) → a < 2 ^ n → power_of n p a k < 2 ^ n
unfolding power_of
power_below h a zero below = one_below h
power_below {n} {o} {p} h a (suc k) below = product_below h (power_of n p a k) a (power_below h a k below)

-- the power `order` of every element but zero is one
pub power-order : {n o p : ℕ} → IsPrimitive n o p → (a : ℕ) → 0 < a → a < 2 ^ n → power_of n p a o ≡ 1
power-order {n} {o} {p} h a some below =
    let found = is_power h a some below in
    ap (λ (x : ℕ). power_of n p x o) (sym found.2) ∙ power-of_turned h found.0 o
    ∙ ap (λ (k : ℕ). turned n p k 1) (mul_comm o found.0) ∙ turned-rounds h found.0

-- the power `order - 1` of an element is its inverse
pub product-inverse : {n o p : ℕ} → IsPrimitive n o p → (a : ℕ) → 0 < a → a < 2 ^ n → product_of n p a (power_of n p a (o - 1)) ≡ 1
unfolding power_of
product-inverse {n} {o} {p} h a some below =
    let last : suc (o - 1) ≡ o = omega (arith, order_positive h) in
    product_comm n p a (power_of n p a (o - 1)) below (power_below h a (o - 1) below)
    ∙ ap (power_of n p a) last ∙ power-order h a some below

-- ---- powers of powers, for squaring

-- the power j + k of an element is the product of its powers j and k
pub power-add : {n o p : ℕ} → IsPrimitive n o p → (a j k : ℕ) → a < 2 ^ n → power_of n p a (j + k) ≡ product_of n p (power_of n p a j) (power_of n p a k)
unfolding power_of
power-add {n} {o} {p} h a j zero below =
    ap (power_of n p a) (add-zero j)
    ∙ sym (product_comm n p (power_of n p a j) 1 (power_below h a j below) (one_below h) ∙ product-one h (power_of n p a j) (power_below h a j below))
power-add {n} {o} {p} h a j (suc k) below =
    ap (power_of n p a) (add-suc j k) ∙ ap (λ (x : ℕ). product_of n p x a) (power-add h a j k below)
    ∙ product_assoc h (power_of n p a j) (power_of n p a k) a (power_below h a j below) (power_below h a k below) below

-- only the remainder by `order` of an exponent counts
pub power-mod : {n o p : ℕ} → IsPrimitive n o p → (k : ℕ) → power_of n p 2 (k % o) ≡ power_of n p 2 k
power-mod {n} {o} {p} h k =
    let split : k % o + k / o * o ≡ k = mod-add-div' k o in
    power-turned h (k % o) ∙ ap (turned n p (k % o)) (sym (turned-rounds h (k / o)))
    ∙ turned-turned n p (k % o) (k / o * o) 1 ∙ ap (λ (i : ℕ). turned n p i 1) split ∙ sym (power-turned h k)
