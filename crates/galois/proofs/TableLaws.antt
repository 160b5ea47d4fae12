-- the tables of powers and exponents, as they are filled and as they are read
use Rattle.std.proofs.Common.{◌≡◌, ◌≢◌, ℕ, ◌+◌, ◌-◌, ◌*◌, ◌^◌, ◌<◌, ◌≤◌, List, length, set, get_or, bit_and, inl, inr, sym, ap, ◌∙◌, arith, get_or-set_other, get_or-set_same}
use Rattle.std.proofs.lemmas.Bool.{cases_eq, cases_lt}
use Rattle.std.proofs.lemmas.List.{length-set}
use Rattle.std.proofs.lemmas.Nat.{and_mask}
use Rattle.std.proofs.Math.Nat.{pow-le-pow_right, mod-eq_of_lt}
use Rattle.galois.specs.Field.{IsField, IsFieldSize, IsNumbering}
use Rattle.galois.specs.Tables.{AreTables}
use Rattle.galois.proofs.Sums.{power_add, power_order, power_round, mul_assoc, mul_unit}

-- numbers of elements are small
pub order_few : {bits order : ℕ} → IsFieldSize bits order → order < 4096
order_few {bits} {order} size = omega (arith, size.order_is, pow-le-pow_right {n = 2} (omega arith) size.twelve_or_less)

-- a number within a field's has no other bits than the greatest
pub masked_order : {bits order : ℕ} → IsFieldSize bits order → (number : ℕ) → number ≤ order → bit_and number order ≡ number
masked_order {bits} {order} size number within =
    let is : order ≡ 2 ^ bits - 1 = omega (arith, size.order_is) in
    ap (bit_and number) is ∙ and_mask number bits ∙ mod-eq_of_lt (let e : number < 2 ^ bits = omega (arith, size.order_is) in e)

-- one item more at its place
set_more : (list : List ℕ) (f place : ℕ → ℕ) (count v : ℕ) → ((i j : ℕ) → place i ≡ place j → i ≡ j) → place count < length list → v ≡ f count
    → ((k : ℕ) → k < count → get_or list (place k) 0 ≡ f k) → (k : ℕ) → k < count + 1 → get_or (set list (place count) v) (place k) 0 ≡ f k
set_more list f place count v apart within is are k below = elim (cases_eq k count) [
  | inl at ↦ ap (λ (i : ℕ). get_or (set list (place count) v) (place i) 0) at ∙ get_or-set_same list (place count) v 0 within ∙ is ∙ ap f (sym at)
  | inr other ↦ get_or-set_other list (place count) (place k) v 0 (λ e. other (apart k count e)) ∙ are k (omega arith)
]

module _ {A : Type 0} {nought unit : A} {plus times : A → A → A} {inverse : A → A} {power : ℕ → A} {order : ℕ} (laws : IsField nought unit plus times inverse power order)
    (value : A → ℕ) (numbering : IsNumbering value order) where
  pub tables_none : (powers exponents : List ℕ) → 2 * order ≤ length powers → order < length exponents → AreTables value power order 0 powers exponents
  tables_none powers exponents long long' = record {
    powers_long = long;
    exponents_long = long';
    power_is = λ k below. absurd (omega arith);
    power_again = λ k below. absurd (omega arith);
    exponent_is = λ k below. absurd (omega arith);
  }

  -- one power more
  pub tables_more : (count number : ℕ) (powers exponents : List ℕ) → count < order → number ≡ value (power count) → AreTables value power order count powers exponents
      → AreTables value power order (count + 1) (set (set powers count number) (order + count) number) (set exponents number count)
  tables_more count number powers exponents below is are =
      let long : length (set powers count number) ≡ length powers = length-set powers count number in
      record {
        powers_long = omega (arith, long, length-set (set powers count number) (order + count) number, are.powers_long);
        exponents_long = omega (arith, length-set exponents number count, are.exponents_long);
        power_is = λ k within.
            get_or-set_other (set powers count number) (order + count) k number 0 (λ e. omega arith)
            ∙ set_more powers (λ i. value (power i)) (λ i. i) count number (λ i j e. e) (omega (arith, below, are.powers_long)) is are.power_is k within;
        power_again = set_more (set powers count number) (λ i. value (power i)) (λ i. order + i) count number (λ i j e. omega arith) (omega (arith, below, long, are.powers_long)) is
            (λ k within. get_or-set_other powers count (order + k) number 0 (λ e. omega arith) ∙ are.power_again k within);
        exponent_is = λ k within. elim (cases_eq k count) [
          | inl at ↦
              ap (λ (i : ℕ). get_or (set exponents number count) (value (power i)) 0) at ∙ ap (λ (i : ℕ). get_or (set exponents number count) i 0) (sym is)
              ∙ get_or-set_same exponents number count 0 (omega (arith, is, are.exponents_long, numbering.within (power count))) ∙ sym at
          | inr apart ↦
              get_or-set_other exponents number (value (power k)) count 0
              (λ e. apart (laws.powers_distinct k count (omega arith) below (numbering.same _ _ (e ∙ is)))) ∙ are.exponent_is k (omega arith)
        ];
      }

  module _ (powers exponents : List ℕ) (are : AreTables value power order order powers exponents) where
    pub power_at : (k : ℕ) → k < 2 * order → get_or powers k 0 ≡ value (power k)
    power_at k below = elim (cases_lt k order) [
      | inl early ↦ are.power_is k early
      | inr late ↦
          let split : order + (k - order) ≡ k = omega arith in
          ap (λ (i : ℕ). get_or powers i 0) (sym split) ∙ are.power_again (k - order) (omega arith)
          ∙ ap value (sym (power_round laws (k - order)) ∙ ap power split)
    ]

    pub exponent_below : (element : A) → element ≢ nought → get_or exponents (value element) 0 < order
    exponent_below element some =
        let (k, less, is) = laws.nonzero_power element some in
        omega (arith, less, sym (ap (λ x. get_or exponents (value x) 0) is) ∙ are.exponent_is k less)

    pub exponent_at : (element : A) → element ≢ nought → power (get_or exponents (value element) 0) ≡ element
    exponent_at element some =
        let (k, less, is) = laws.nonzero_power element some in
        ap power (sym (ap (λ x. get_or exponents (value x) 0) is) ∙ are.exponent_is k less) ∙ is

  -- an element over a power
  pub over_power : (x d : A) (e : ℕ) → power e ≡ d → e ≤ order → times (times x (power (order - e))) d ≡ x
  over_power x d e is within =
      let all : order - e + e ≡ order = omega arith in
      ap (times (times x (power (order - e)))) (sym is) ∙ mul_assoc laws x (power (order - e)) (power e)
      ∙ ap (times x) (sym (power_add laws (order - e) e) ∙ ap power all ∙ power_order laws) ∙ mul_unit laws x
