-- the places at which a locator vanishes, with all those of an error
use Rattle.std.proofs.Common.{◌≡◌, ◌≢◌, ℕ, zero, suc, ◌+◌, ◌*◌, ◌<◌, sym, ◌∙◌, ap, refl, arith, List, [], ◌∷◌, length, Bool, true, false, add-one, subst, inl, inr}
use Rattle.std.specs.Prelude.{All}
use Rattle.std.specs.Bool.{Decides}
use Rattle.galois.specs.Field.{IsField}
use Rattle.galois.specs.CheckWord.{weighted_sum, check_sum}
use Rattle.galois.proofs.Sums.{nought_add, nought_mul, power_add, mul_assoc}
use Rattle.galois.specs.Locator.{VanishesAt, here_too, IsFalling, no_places, place_below}
use Rattle.galois.proofs.LocatorRoots.{falling_more}
use Rattle.std.proofs.Math.Nat.{suc-mul}
use Rattle.std.proofs.lemmas.Bool.{cases_Bool}
use Rattle.rs_decode.specs.Search.{AreSearched}
use Rattle.rs_decode.specs.Values.{IsErrorAt, none, right, wrong, power_sum}

All-none : (P : ℕ → Type 0) → All P []
All-none P k d below = absurd (omega arith)

All-more : (P : ℕ → Type 0) (m : ℕ) (places : List ℕ) → P m → All P places → All P (m ∷ places)
All-more P m places here rest zero d below = here
All-more P m places here rest (suc k) d below = rest k d (omega arith)

module _ {A : Type 0} {nought unit : A} {plus times : A → A → A} {inverse : A → A} {power : ℕ → A} {order : ℕ} (laws : IsField nought unit plus times inverse power order) where
  module _ (equal : A → A → Bool) (decides : (a b : A) → Decides (equal a b) (a ≡ b)) where
    -- the values of an error
    abbrev Found : (ℕ → A) → ℕ → List ℕ → Type 0
    Found value n places = (error : List A) → length error ≡ n → VanishesAt nought value error →
        (values : List A) × IsErrorAt nought times power places values error

    pub found_none : (value : ℕ → A) → Found value 0 []
    found_none value [] long _ = ([], none)
    found_none value (x ∷ error) long _ = absurd (omega arith)

    pub found_root : (value : ℕ → A) (n : ℕ) (places : List ℕ) → Found value n places → Found value (suc n) (n ∷ places)
    found_root value n places found [] long _ = absurd (omega arith)
    found_root value n places found (x ∷ error) long (here_too _ rest) =
        let same : length error ≡ n = omega arith in
        let (values, is) = found error same rest in (
          times x (power (length error)) ∷ values,
          subst (λ (m : ℕ). IsErrorAt nought times power (m ∷ places) (times x (power (length error)) ∷ values) (x ∷ error)) same (wrong x is),
        )

    pub found_other : (value : ℕ → A) (n : ℕ) (places : List ℕ) → value n ≢ nought → Found value n places → Found value (suc n) places
    found_other value n places other found [] long _ = absurd (omega arith)
    found_other value n places other found (x ∷ error) long (here_too here rest) =
        let same : length error ≡ n = omega arith in
        let (values, is) = found error same rest in
        let nothing : x ≡ nought = elim (cases_Bool (equal x nought)) [
          | inl same_as ↦ (decides x nought).0 same_as
          | inr apart ↦ absurd (other (ap value (sym same) ∙ here (λ e. let contrary : true ≡ false = sym ((decides x nought).1 e) ∙ apart in (cc))))
        ] in
        (values, subst (λ y. IsErrorAt nought times power places values (y ∷ error)) (sym nothing) (right is))

    pub searched_none : (value : ℕ → A) (places : List ℕ) → places ≡ [] → AreSearched nought times power value 0 places
    searched_none value places is = rw is (record {
      falling = no_places;
      roots = All-none (λ m. value m ≡ nought);
      errors = record { finds = found_none value };
    })

    pub searched_more : (value : ℕ → A) (m : ℕ) (places more : List ℕ) (here : A) → here ≡ value m →
        (here ≡ nought → more ≡ m ∷ places) → (here ≢ nought → more ≡ places) →
        AreSearched nought times power value m places → AreSearched nought times power value (m + 1) more
    searched_more value m places more here is root other before =
        elim (cases_Bool (equal here nought)) [
          | inl same ↦
              let at : here ≡ nought = (decides here nought).0 same in
              let below : m < suc m = omega arith in
              rw (root at, add-one m) (record {
                falling = place_below below before.falling;
                roots = All-more (λ i. value i ≡ nought) m places (sym is ∙ at) before.roots;
                errors = record { finds = found_root value m places before.errors.finds };
              })
          | inr apart ↦
              let some : here ≢ nought = λ e. let contrary : true ≡ false = sym ((decides here nought).1 e) ∙ apart in (cc) in
              rw (other some, add-one m) (record {
                falling = falling_more m (suc m) places (omega arith) before.falling;
                roots = before.roots;
                errors = record { finds = found_other value m places (λ e. some (is ∙ e)) before.errors.finds };
              })
        ]

  pub error_falling : (places : List ℕ) (values error : List A) → IsErrorAt nought times power places values error → IsFalling (length error) places
  error_falling _ _ _ none = no_places
  error_falling places values (_ ∷ error) (right is) = falling_more (length error) (suc (length error)) places (omega arith) (error_falling places values error is)
  error_falling _ _ _ (wrong {places} {values} {error} x is) = place_below (omega arith) (error_falling places values error is)

  pub length-error_values : (places : List ℕ) (values error : List A) → IsErrorAt nought times power places values error → length values ≡ length places
  length-error_values _ _ _ none = refl
  length-error_values places values (_ ∷ error) (right is) = length-error_values places values error is
  length-error_values _ _ _ (wrong {places} {values} {error} x is) = ap suc (length-error_values places values error is)

  -- its power sums are the check sums
  pub power_sum-error : (places : List ℕ) (values error : List A) (t : ℕ) → IsErrorAt nought times power places values error →
      power_sum nought plus times power places values t ≡ check_sum nought plus times power error (suc t)
  unfolding power_sum check_sum weighted_sum
  power_sum-error _ _ _ t none = refl
  power_sum-error places values (_ ∷ error) t (right is) =
      power_sum-error places values error t is ∙ sym (nought_add laws _) ∙ ap (λ x. plus x (check_sum nought plus times power error (suc t))) (sym (nought_mul laws _))
  power_sum-error _ _ _ t (wrong {places} {values} {error} x is) =
      let m : ℕ = length error in
      let head : times (times x (power m)) (power (t * m)) ≡ times x (power (suc t * m)) =
      mul_assoc laws x (power m) (power (t * m)) ∙ ap (times x) (laws.mul_comm (power m) (power (t * m)) ∙ sym (power_add laws (t * m) m) ∙ ap power (sym (suc-mul t m))) in
      rw (power_sum-error places values error t is) (ap (λ y. plus y (check_sum nought plus times power error (suc t))) head)
