-- the laws of the field of a primitive polynomial, at any type whose values are the numbers 0 to its order
use Rattle.std.proofs.Common.{◌≡◌, ◌≢◌, ℕ, ◌-◌, ◌^◌, ◌<◌, ◌≤◌, bit_xor, arith, ap, sym, ◌∙◌, subst, inl, inr, true, ◌↔◌}
use Rattle.std.proofs.Math.Dec.{eqb}
use Rattle.std.proofs.Math.Nat.{eq-zero-or-pos}
use Rattle.std.proofs.Math.Bridge.{le_prop}
use Rattle.std.proofs.lemmas.Bool.{eqb-true, eq-eqb}
use Rattle.std.proofs.lemmas.Nat.{xor_comm, xor_lt}
use Rattle.std.specs.Int.Bits.{xor_assoc, xor_self, xor_zero_l}
use Rattle.galois.specs.Polynomials.{product_of, power_of, IsPrimitive}
use Rattle.galois.specs.Field.{IsField, IsFieldSize, IsNumbering}
use Rattle.galois.specs.MultipleLaws.{one_below, product_below, product-one, product-sum, product_comm, product_assoc}
use Rattle.galois.specs.PowerLaws.{two_below, power-zero, power-next, power-one, order_positive, power-turned, power_below, turned-nonzero, turned_distinct, product-inverse, is_power}

-- a number up to the order is below 2 ^ n
pub below_of : {n o p : ℕ} → IsPrimitive n o p → (a : ℕ) → a ≤ o → a < 2 ^ n
below_of h a within = omega (arith, h.order_is)

-- a number below 2 ^ n is at most the order
pub within_of : {n o p : ℕ} → IsPrimitive n o p → (a : ℕ) → a < 2 ^ n → a ≤ o
within_of h a below = omega (arith, h.order_is)

-- ---- every operation stays within 0 to the order

-- zero is at most the order
pub zero_within : {n o p : ℕ} → IsPrimitive n o p → 0 ≤ o
zero_within h = omega arith

-- one is at most the order
pub one_within : {n o p : ℕ} → IsPrimitive n o p → 1 ≤ o
one_within h = within_of h 1 (one_below h)

-- alpha, the number 2, is at most the order
pub alpha_within : {n o p : ℕ} → IsPrimitive n o p → 2 ≤ o
alpha_within h = omega (arith, order_positive h)

-- the sum of two elements is at most the order
pub sum_within : {n o p : ℕ} → IsPrimitive n o p → (a b : ℕ) → a ≤ o → b ≤ o → bit_xor a b ≤ o
sum_within {n} h a b aw bw = within_of h (bit_xor a b) (xor_lt n a b (below_of h a aw) (below_of h b bw))

-- the product of an element and any number is at most the order
pub product_within : {n o p : ℕ} → IsPrimitive n o p → (a b : ℕ) → a ≤ o → product_of n p a b ≤ o
product_within {n} {o} {p} h a b aw = within_of h (product_of n p a b) (product_below h a b (below_of h a aw))

-- every power of an element is at most the order
pub power_within : {n o p : ℕ} → IsPrimitive n o p → (a k : ℕ) → a ≤ o → power_of n p a k ≤ o
power_within {n} {o} {p} h a k aw = within_of h (power_of n p a k) (power_below h a k (below_of h a aw))

-- ---- the laws, at a type A that is made of a number and that it is within the order

-- of equal numbers the same element is made
pub same_made : {A : Type 0} {o : ℕ} (make : (k : ℕ) → k ≤ o → A) (j k : ℕ) (jw : j ≤ o) (kw : k ≤ o) → j ≡ k → make j jw ≡ make k kw
same_made {A} {o} make j k jw kw e =
    let P : ℕ → Type 0 = λ i. (iw : i ≤ o) → make j jw ≡ make i iw in
    subst P e (λ iw. ap (make j) (le_prop jw iw)) kw

-- the degree and the order of a primitive polynomial are the number of bits and the greatest number of an element of a field
pub size_of : {n o p : ℕ} → IsPrimitive n o p → IsFieldSize n o
size_of h = record { two_or_more = h.two_or_more; twelve_or_less = h.twelve_or_less; order_is = h.order_is }

-- where making an element of a number and taking an element's number undo each other, the elements are numbered 0 to the order
pub numbering_of : {A : Type 0} {o : ℕ} (make : (k : ℕ) → k ≤ o → A) (number : A → ℕ)
    (within : (a : A) → number a ≤ o) (back : (a : A) → make (number a) (within a) ≡ a)
    (forth : (k : ℕ) (kw : k ≤ o) → number (make k kw) ≡ k)
    → IsNumbering number o
numbering_of make number within back forth = record {
  within = within;
  same = λ a b e. sym (back a) ∙ same_made make (number a) (number b) (within a) (within b) e ∙ back b;
  onto = λ k kw. (make k kw, forth k kw);
}

-- where an element can be made again of its number, two elements have equal numbers just where they are equal
pub equal_of : {A : Type 0} {o : ℕ} (make : (k : ℕ) → k ≤ o → A) (number : A → ℕ)
    (within : (a : A) → number a ≤ o) (back : (a : A) → make (number a) (within a) ≡ a)
    (a b : A) → (eqb (number a) (number b) ≡ true) ↔ (a ≡ b)
equal_of make number within back a b = (
  λ e. sym (back a) ∙ same_made make (number a) (number b) (within a) (within b) (eqb-true (number a) (number b) e) ∙ back b,
  λ e. eq-eqb (number a) (number b) (ap number e),
)

-- elements made of the numbers 0 to the order are a field, with the sums, products, inverses and powers of alpha that the primitive polynomial gives their numbers
pub laws_of : {A : Type 0} {n o p : ℕ} (h : IsPrimitive n o p) (make : (k : ℕ) → k ≤ o → A) (number : A → ℕ)
    (within : (a : A) → number a ≤ o) (back : (a : A) → make (number a) (within a) ≡ a)
    (forth : (k : ℕ) (kw : k ≤ o) → number (make k kw) ≡ k)
    → IsField (make 0 (zero_within h)) (make 1 (one_within h))
    (λ a b. make (bit_xor (number a) (number b)) (sum_within h (number a) (number b) (within a) (within b)))
    (λ a b. make (product_of n p (number a) (number b)) (product_within h (number a) (number b) (within a)))
    (λ a. make (power_of n p (number a) (o - 1)) (power_within h (number a) (o - 1) (within a)))
    (λ k. make (power_of n p 2 k) (power_within h 2 k (alpha_within h)))
    o
laws_of {A} {n} {o} {p} h make number within back forth =
    let below : (a : A) → number a < 2 ^ n = λ a. below_of h (number a) (within a) in
    let same : (j k : ℕ) (jw : j ≤ o) (kw : k ≤ o) → j ≡ k → make j jw ≡ make k kw = same_made make in
    let positive : (a : A) → a ≢ make 0 (zero_within h) → 0 < number a =
    λ a some. elim (eq-zero-or-pos (number a)) [
      | inl none ↦ absurd (some (sym (back a) ∙ same (number a) 0 (within a) (zero_within h) none))
      | inr more ↦ more
    ] in
    record {
      add_comm = λ a b. same _ _ _ _ (xor_comm (number a) (number b));
      add_assoc = λ a b c. same _ _ _ _ (simp (forth, xor_assoc));
      add_zero = λ a. same _ _ _ (within a) (simp (forth, xor_zero_l)) ∙ back a;
      self_negative = λ a. same _ _ _ _ (xor_self (number a));
      mul_comm = λ a b. same _ _ _ _ (product_comm n p (number a) (number b) (below a) (below b));
      mul_assoc = λ a b c. same _ _ _ _ (simp forth (product_assoc h (number a) (number b) (number c) (below a) (below b) (below c)));
      mul_one = λ a. same _ _ _ (within a) (simp forth (product-one h (number a) (below a))) ∙ back a;
      distributes = λ a b c. same _ _ _ _ (simp forth (product-sum n p (number a) (number b) (number c) (below a)));
      inverts = λ a some. same _ _ _ _ (simp forth (product-inverse h (number a) (positive a some) (below a)));
      power_zero = same _ _ _ _ (power-zero n p 2);
      power_next = λ k. same _ _ _ _ (simp forth (power-next n p 2 k ∙ ap (product_of n p (power_of n p 2 k)) (sym (power-one h 2 (two_below h)))));
      power_nonzero = λ k e. turned-nonzero h k
          (sym (power-turned h k) ∙ sym (forth (power_of n p 2 k) (power_within h 2 k (alpha_within h))) ∙ ap number e ∙ forth 0 (zero_within h));
      powers_distinct = λ i j ib jb e. turned_distinct h i j ib jb
          (sym (power-turned h i) ∙ sym (forth (power_of n p 2 i) (power_within h 2 i (alpha_within h))) ∙ ap number e
          ∙ forth (power_of n p 2 j) (power_within h 2 j (alpha_within h)) ∙ power-turned h j);
      nonzero_power = λ a some.
          let (k, less, is) = is_power h (number a) (positive a some) (below a) in
          (k, less, same _ _ _ (within a) (power-turned h k ∙ is) ∙ back a);
    }
