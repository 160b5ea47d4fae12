-- the values at known places, from as many power sums
use Rattle.std.proofs.Common.{◌≡◌, ◌≢◌, ℕ, zero, suc, ◌+◌, ◌*◌, ◌<◌, ◌≤◌, sym, ◌∙◌, ap, refl, arith, List, [], ◌∷◌, ◌++◌, length, get_or, take, drop, set}
use Rattle.std.proofs.Math.Nat.{suc-mul, zero-mul}
use Rattle.galois.specs.Field.{IsField}
use Rattle.galois.proofs.Sums.{nought_add, add_nought, nought_mul, mul_unit, add_self, add_again, add_comm, add_assoc, add_left, mul_comm, mul_assoc, mul_left, distributes, distributes_right, power_add, same_from_sum, mul_cancel}
use Rattle.galois.specs.Coefficients.{total}
use Rattle.galois.specs.Locator.{IsFalling, place_below}
use Rattle.rs_decode.specs.Values.{power_sum, power_sums, lowered}
use Rattle.rs_decode.proofs.Loops.{changed_step, changed_all}

-- values, each times its place less another
unfoldable pub weighed : {A : Type 0} (plus times : A → A → A) (power : ℕ → A) → ℕ → List ℕ → List A → List A
weighed plus times power p [] values = []
weighed plus times power p (q ∷ places) [] = []
weighed plus times power p (q ∷ places) (z ∷ values) = times z (plus (power q) (power p)) ∷ weighed plus times power p places values

module _ {A : Type 0} {nought unit : A} {plus times : A → A → A} {inverse : A → A} {power : ℕ → A} {order : ℕ} (laws : IsField nought unit plus times inverse power order) where
  pub length-weighed : (p : ℕ) (places : List ℕ) (values : List A) → length values ≡ length places → length (weighed plus times power p places values) ≡ length places
  unfolding weighed
  length-weighed p [] [] same = refl
  length-weighed p [] (z ∷ values) same = refl
  length-weighed p (q ∷ places) [] same = absurd (omega arith)
  length-weighed p (q ∷ places) (z ∷ values) same = ap suc (length-weighed p places values (omega arith))

  power_next : (t p : ℕ) → power (suc t * p) ≡ times (power (t * p)) (power p)
  power_next t p = ap power (suc-mul t p) ∙ power_add laws (t * p) p

  step_alike : (z a q p s r : A) → plus (plus (times z (times a q)) s) (times (plus (times z a) r) p) ≡ plus (times (times z (plus q p)) a) (plus s (times r p))
  step_alike z a q p s r = simp (add_comm laws, add_assoc laws, add_left laws, mul_comm laws, mul_assoc laws, mul_left laws, distributes laws, distributes_right laws)

  lowered_sum : (p : ℕ) (places : List ℕ) (values : List A) (t : ℕ) →
      plus (power_sum nought plus times power places values (suc t)) (times (power_sum nought plus times power places values t) (power p)) ≡
      power_sum nought plus times power places (weighed plus times power p places values) t
  unfolding power_sum weighed
  lowered_sum p [] values t = simp (nought_mul laws, nought_add laws)
  lowered_sum p (q ∷ places) [] t = simp (nought_mul laws, nought_add laws)
  lowered_sum p (q ∷ places) (z ∷ values) t =
      rw (power_next t q, ← lowered_sum p places values t)
      (step_alike z (power (t * q)) (power q) (power p) (power_sum nought plus times power places values (suc t)) (power_sum nought plus times power places values t))

  head_gone : (z a p s r : A) → plus (plus (times z (times a p)) s) (times (plus (times z a) r) p) ≡ plus s (times r p)
  head_gone z a p s r = simp (add_self laws, add_again laws, nought_add laws, add_nought laws, add_comm laws, add_assoc laws, add_left laws, mul_comm laws, mul_assoc laws, mul_left laws, distributes laws, distributes_right laws)

  pub lowered_sums : (p : ℕ) (places : List ℕ) (z : A) (values : List A) (t count : ℕ) →
      lowered plus times (power p) (power_sum nought plus times power (p ∷ places) (z ∷ values) t) (power_sums nought plus times power (p ∷ places) (z ∷ values) (suc t) count) ≡
      power_sums nought plus times power places (weighed plus times power p places values) t count
  unfolding power_sum power_sums lowered
  lowered_sums p places z values t zero = refl
  lowered_sums p places z values t (suc count) =
      rw (lowered_sums p places z values (suc t) count)
      (ap (λ x. x ∷ power_sums nought plus times power places (weighed plus times power p places values) (suc t) count)
      (rw (power_next t p) (head_gone z (power (t * p)) (power p) (power_sum nought plus times power places values (suc t)) (power_sum nought plus times power places values t)) ∙
      lowered_sum p places values t))

  -- power sum 0 is the sum of the values
  pub first_sum : (places : List ℕ) (values : List A) → length values ≡ length places → power_sum nought plus times power places values 0 ≡ total nought plus values
  unfolding power_sum total
  first_sum [] [] same = refl
  first_sum [] (z ∷ values) same = absurd (omega arith)
  first_sum (p ∷ places) [] same = absurd (omega arith)
  first_sum (p ∷ places) (z ∷ values) same =
      rw (zero-mul p, laws.power_zero, mul_unit laws z, first_sum places values (omega arith)) refl

  -- the first value is the first power sum less the others
  pub first_value : (p : ℕ) (places : List ℕ) (z : A) (values : List A) → length values ≡ length places →
      plus (power_sum nought plus times power (p ∷ places) (z ∷ values) 0) (total nought plus values) ≡ z
  unfolding power_sum
  first_value p places z values same =
      rw (zero-mul p, laws.power_zero, mul_unit laws z, first_sum places values same)
      (add_assoc laws z (total nought plus values) (total nought plus values) ∙ ap (plus z) (add_self laws (total nought plus values)) ∙ add_nought laws z)

  divide_all : (bound p : ℕ) (places : List ℕ) (values got : List A) → bound ≤ p → IsFalling bound places → p < order → length values ≡ length places → length got ≡ length places →
      ((k : ℕ) (d : A) → k < length places → plus (power (get_or places k 0)) (power p) ≢ nought →
      times (get_or got k d) (plus (power (get_or places k 0)) (power p)) ≡ get_or (weighed plus times power p places values) k d) → got ≡ values
  unfolding weighed
  divide_all bound p [] [] [] within falling fits same long each = refl
  divide_all bound p [] (z ∷ values) got within falling fits same long each = absurd (omega arith)
  divide_all bound p [] values (z ∷ got) within falling fits same long each = absurd (omega arith)
  divide_all bound p (q ∷ places) [] got within falling fits same long each = absurd (omega arith)
  divide_all bound p (q ∷ places) values [] within falling fits same long each = absurd (omega arith)
  divide_all bound p (q ∷ places) (z ∷ values) (y ∷ got) within (place_below below rest) fits same long each =
      let apart : plus (power q) (power p) ≢ nought = λ e. let at : q ≡ p = laws.powers_distinct q p (omega arith) fits (same_from_sum laws (power q) (power p) e) in absurd (omega arith) in
      let product : times y (plus (power q) (power p)) ≡ times z (plus (power q) (power p)) = each 0 y (omega arith) apart in
      let head : y ≡ z = same_from_sum laws y z (mul_cancel laws (plus y z) (plus (power q) (power p)) apart
      (distributes_right laws y z (plus (power q) (power p)) ∙ rw product (add_self laws (times z (plus (power q) (power p)))))) in
      rw (head, divide_all q p places values got (omega arith) rest fits (omega arith) (omega arith) (λ k d below some. each (suc k) d (omega arith) some)) refl

  -- each divided again
  pub divided : (p : ℕ) (places : List ℕ) (values got : List A) → IsFalling p places → p < order → length values ≡ length places → length got ≡ length places →
      ((k : ℕ) (d : A) → k < length places → plus (power (get_or places k 0)) (power p) ≢ nought →
      times (get_or got k d) (plus (power (get_or places k 0)) (power p)) ≡ get_or (weighed plus times power p places values) k d) → got ≡ values
  divided p places values got falling fits same long each = divide_all p p places values got (omega arith) falling fits same long each

  -- a place, its value and the rest
  pub solved : (bound : ℕ) (places : List ℕ) (values sums low found got : List A) (first : A) → IsFalling bound places → bound ≤ order → 0 < length places → length values ≡ length places →
      sums ≡ power_sums nought plus times power places values 0 (length places) → first ≡ get_or sums 0 first →
      low ≡ lowered plus times (power (get_or places 0 0)) first (drop 1 sums) →
      ((bound : ℕ) (values : List A) → IsFalling bound (drop 1 places) → bound ≤ order → length values ≡ length (drop 1 places) →
      low ≡ power_sums nought plus times power (drop 1 places) values 0 (length (drop 1 places)) → found ≡ values) →
      length got ≡ length (drop 1 places) →
      ((k : ℕ) (d : A) → k < length (drop 1 places) → plus (power (get_or (drop 1 places) k 0)) (power (get_or places 0 0)) ≢ nought →
      times (get_or got k d) (plus (power (get_or (drop 1 places) k 0)) (power (get_or places 0 0))) ≡ get_or found k d) →
      plus first (total nought plus got) ∷ got ≡ values
  unfolding power_sums
  solved bound [] values sums low found got first falling fits some same is_sums is_first is_low recurse long each = absurd (omega arith)
  solved bound (p ∷ places) [] sums low found got first falling fits some same is_sums is_first is_low recurse long each = absurd (omega arith)
  solved bound (p ∷ places) (z ∷ values) sums low found got first (place_below below rest) fits some same is_sums is_first is_low recurse long each =
      let same' : length values ≡ length places = omega arith in
      let first_is : first ≡ power_sum nought plus times power (p ∷ places) (z ∷ values) 0 = is_first ∙ ap (λ l. get_or l 0 first) is_sums in
      let low_is : low ≡ power_sums nought plus times power places (weighed plus times power p places values) 0 (length places) =
      is_low ∙ ap (λ x. lowered plus times (power p) x (drop 1 sums)) first_is ∙
      ap (λ l. lowered plus times (power p) (power_sum nought plus times power (p ∷ places) (z ∷ values) 0) (drop 1 l)) is_sums ∙
      lowered_sums p places z values 0 (length places) in
      let found_is : found ≡ weighed plus times power p places values =
      recurse p (weighed plus times power p places values) rest (omega arith) (length-weighed p places values same') low_is in
      let got_is : got ≡ values = divided p places values got rest (omega arith) same' long (λ k d within apart. each k d within apart ∙ ap (λ l. get_or l k d) found_is) in
      rw (first_is, got_is) (ap (λ x. x ∷ values) (first_value p places z values same'))

  -- one sum more is lowered
  pub lowered_step : (factor : A) (sums : List A) (i : ℕ) (before x v : A) → i < length sums → x ≡ get_or sums i x → v ≡ plus x (times before factor) →
      take (i + 1) (set sums i v) ++ lowered plus times factor x (drop (i + 1) (set sums i v)) ≡ take i sums ++ lowered plus times factor before (drop i sums)
  unfolding lowered
  lowered_step factor sums i before x v within is is_v =
      changed_step (λ s l. lowered plus times factor s l) sums i before x x v within is (ap (λ y. y ∷ lowered plus times factor x (drop (suc i) sums)) (sym is_v))

  pub lowered_all : (factor : A) (sums : List A) (i : ℕ) (before : A) → length sums ≤ i → take i sums ++ lowered plus times factor before (drop i sums) ≡ sums
  unfolding lowered
  lowered_all factor sums i before past = changed_all (λ s l. lowered plus times factor s l) sums i before past refl
