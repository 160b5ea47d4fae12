-- five polynomials are primitive: their powers of x are walked, one by one, when this file is checked
use Rattle.std.proofs.Common.{◌≡◌, ◌≢◌, ℕ, zero, suc, ◌+◌, ◌*◌, ◌^◌, ◌<◌, ◌≤◌, Bool, true, false, arith, ap, sym, ◌∙◌, refl, zero-add, lit<, inl, inr, subst, cond}
use Rattle.std.proofs.Math.Dec.{eqb, lit≤}
use Rattle.std.proofs.Math.Nat.{one-mul}
use Rattle.std.proofs.lemmas.Bool.{eqb-true}
use Rattle.std.proofs.lemmas.Bool.Decides.{eqb_tells}
use Rattle.galois.specs.Polynomials.{remainder, IsPrimitive}
use Rattle.galois.specs.DivisionLaws.{turn}
use Rattle.galois.specs.MultipleLaws.{turned, turned-turn, remainder-shifted}

-- whether y comes to one after m steps of x, and not before
unfoldable pub comes_to_one : ℕ → ℕ → ℕ → ℕ → Bool
comes_to_one n p zero y = eqb y 1
comes_to_one n p (suc m) y = cond (eqb y 1) false (comes_to_one n p m (turn n p y))

-- what that test says
record ComesToOne (n p m y : ℕ) : Type 0 where
  there : turned n p m y ≡ 1
  not_before : (i : ℕ) → i < m → turned n p i y ≢ 1

later : (n p m y : ℕ) → y ≢ 1 → ComesToOne n p m (turn n p y) → ComesToOne n p (suc m) y
unfolding turned
later n p m y other w = record {
  there = sym (turned-turn n p m y) ∙ w.there;
  not_before = before;
}
  where
    before : (i : ℕ) → i < suc m → turned n p i y ≢ 1
    before zero less e = other e
    before (suc i) less e = w.not_before i (omega arith) (turned-turn n p i y ∙ e)

comes : (n p m y : ℕ) → comes_to_one n p m y ≡ true → ComesToOne n p m y
unfolding comes_to_one turned
comes n p zero y e = record { there = eqb-true y 1 e; not_before = λ i less. absurd (omega arith) }
comes n p (suc m) y e =
    elim (eqb_tells y 1) [
      | inl one ↦ absurd (let wrong : false ≡ true = subst (λ t. cond t false (comes_to_one n p m (turn n p y)) ≡ true) one.0 e in cc)
      | inr other ↦ later n p m y other.1 (comes n p m (turn n p y) (subst (λ t. cond t false (comes_to_one n p m (turn n p y)) ≡ true) other.0 e))
    ]

power-remainder : (n p k : ℕ) → 1 < 2 ^ n → remainder n p k (2 ^ k) ≡ turned n p k 1
power-remainder n p k small =
    ap (remainder n p k) (sym (one-mul (2 ^ k))) ∙ ap (λ (i : ℕ). remainder n p i (1 * 2 ^ k)) (sym (zero-add k))
    ∙ remainder-shifted n p 0 k 1 small

-- a polynomial of degree n, 2 to 12, is primitive where the powers of x come to one at the order, 2 ^ n - 1, and not before
pub primitive_of : (n o p : ℕ) → 2 ≤ n → n ≤ 12 → suc o + 1 ≡ 2 ^ n → 2 ^ n ≤ p → p < 2 ^ (n + 1) → 1 < 2 ^ n
    → comes_to_one n p o (turn n p 1) ≡ true → IsPrimitive n (suc o) p
unfolding turned
primitive_of n o p two twelve order low high small test =
    let walk = comes n p o (turn n p 1) test in
    record {
      two_or_more = two;
      twelve_or_less = twelve;
      order_is = order;
      degree_reached = low;
      degree_kept = high;
      comes_back = power-remainder n p (suc o) small ∙ sym (turned-turn n p o 1) ∙ walk.there;
      not_before = λ k some less e. not_one k some less (sym (power-remainder n p k small) ∙ e);
    }
  where
    not_one : (k : ℕ) → 0 < k → k < suc o → turned n p k 1 ≢ 1
    not_one zero some less e = absurd (omega arith)
    not_one (suc k) some less e = (comes n p o (turn n p 1) test).not_before k (omega arith) (turned-turn n p k 1 ∙ e)

-- x^4 + x + 1
pub primitive-16 : IsPrimitive 4 15 0x13
unfolding comes_to_one turn
primitive-16 = primitive_of 4 14 0x13 (lit≤ tt) (lit≤ tt) refl (lit≤ tt) (lit< tt) (lit< tt) refl

-- x^6 + x + 1
pub primitive-64 : IsPrimitive 6 63 0x43
unfolding comes_to_one turn
primitive-64 = primitive_of 6 62 0x43 (lit≤ tt) (lit≤ tt) refl (lit≤ tt) (lit< tt) (lit< tt) refl

-- x^8 + x^5 + x^3 + x^2 + 1
pub primitive-256 : IsPrimitive 8 255 0x12D
unfolding comes_to_one turn
primitive-256 = primitive_of 8 254 0x12D (lit≤ tt) (lit≤ tt) refl (lit≤ tt) (lit< tt) (lit< tt) refl

-- x^10 + x^3 + 1
pub primitive-1024 : IsPrimitive 10 1023 0x409
unfolding comes_to_one turn
primitive-1024 = primitive_of 10 1022 0x409 (lit≤ tt) (lit≤ tt) refl (lit≤ tt) (lit< tt) (lit< tt) refl

-- x^12 + x^6 + x^5 + x^3 + 1
pub primitive-4096 : IsPrimitive 12 4095 0x1069
unfolding comes_to_one turn
primitive-4096 = primitive_of 12 4094 0x1069 (lit≤ tt) (lit≤ tt) refl (lit≤ tt) (lit< tt) (lit< tt) refl
