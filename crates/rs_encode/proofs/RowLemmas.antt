-- rows of multiples
use Rattle.std.proofs.Common.{◌≡◌, inl, inr, ℕ, ◌+◌, ◌-◌, ◌*◌, ◌<◌, ◌≤◌, List, length, get_or, nat_lt, sym, ap, subst, ◌∙◌, arith}
use Rattle.std.proofs.lemmas.Bool.{cases_lt, cond-true, cond-false, lt-ltb, le-ltb}
use Rattle.galois.specs.Field.{IsField}
use Rattle.galois.proofs.Sums.{distributes_right}
use Rattle.rs_encode.specs.Rows.{row_number, HasRow, HasRows}

pub row_low : (k : ℕ) → k < 16 → row_number k ≡ k
unfolding row_number
row_low k below = cond-true (nat_lt k 16) k _ (lt-ltb k 16 below)

pub row_middle : (k : ℕ) → k < 16 → row_number (16 + k) ≡ k * 16
unfolding row_number
row_middle k below =
    cond-false (nat_lt (16 + k) 16) (16 + k) _ (le-ltb (16 + k) 16 (omega arith))
    ∙ cond-true (nat_lt (16 + k) 32) ((16 + k - 16) * 16) ((16 + k - 32) * 256) (lt-ltb (16 + k) 32 (omega arith))
    ∙ ap (λ (n : ℕ). n * 16) (let e : 16 + k - 16 ≡ k = omega arith in e)

pub row_high : (k : ℕ) → row_number (32 + k) ≡ k * 256
unfolding row_number
row_high k =
    cond-false (nat_lt (32 + k) 16) (32 + k) _ (le-ltb (32 + k) 16 (omega arith))
    ∙ cond-false (nat_lt (32 + k) 32) ((32 + k - 16) * 16) ((32 + k - 32) * 256) (le-ltb (32 + k) 32 (omega arith))
    ∙ ap (λ (n : ℕ). n * 256) (let e : 32 + k - 32 ≡ k = omega arith in e)

module _ {A : Type 0} (times : A → A → A) (power : ℕ → A) (value : A → ℕ) (order : ℕ) (exponents : List ℕ) where
  row_kept : (old new : List ℕ) (k other : ℕ) → length exponents ≤ 512 → ((j : ℕ) → j < k * 512 → get_or new j 0 ≡ get_or old j 0) → other < k
      → HasRow times power value order exponents old other → HasRow times power value order exponents new other
  row_kept old new k other few kept before row = record {
    products = λ x is i within. kept (other * 512 + i) (omega arith) ∙ row.products x is i within;
    below = λ i within. let same : get_or new (other * 512 + i) 0 ≡ get_or old (other * 512 + i) 0 = kept (other * 512 + i) (omega arith) in
        omega (arith, same, row.below i within);
  }

  pub rows_more : (old new : List ℕ) (k : ℕ) → length exponents ≤ 512 → ((j : ℕ) → j < k * 512 → get_or new j 0 ≡ get_or old j 0)
      → HasRows times power value order exponents old k → HasRow times power value order exponents new k
      → HasRows times power value order exponents new (k + 1)
  rows_more old new k few kept rows here = record {
    each = λ other below. elim (cases_lt other k) [
      | inl before ↦ row_kept old new k other few kept before (rows.each other before)
      | inr at ↦ subst (λ (n : ℕ). HasRow times power value order exponents new n) (let e : k ≡ other = omega arith in e) here
    ];
  }

module _ {A : Type 0} {nought unit : A} {plus times : A → A → A} {inverse : A → A} {power : ℕ → A} {order : ℕ} (laws : IsField nought unit plus times inverse power order) where
  pub three_products : (x y z g : A) → plus (times x g) (plus (times y g) (times z g)) ≡ times (plus x (plus y z)) g
  three_products x y z g = sym (distributes_right laws x (plus y z) g ∙ ap (plus (times x g)) (distributes_right laws y z g))
