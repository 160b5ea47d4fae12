-- the only check word that can be near is what the decoder finds
use Rattle.std.proofs.Common.{◌≡◌, ℕ, zero, suc, ◌+◌, ◌/◌, ◌-◌, ◌<◌, ◌≤◌, sym, ◌∙◌, ap, refl, arith, List, [], ◌∷◌, length, get_or, take, drop, Bool, not, add-one, add-zero, zero-add}
use Rattle.std.specs.List.{count_by}
use Rattle.std.specs.Bool.{Decides}
use Rattle.std.proofs.lemmas.List.{length-drop, ext_get_or, get_or-take}
use Rattle.galois.specs.Field.{IsField}
use Rattle.galois.specs.CheckWord.{check_sum, lost_count, word_sum, IsNearKnown}
use Rattle.galois.specs.Locator.{VanishesAt, IsLocator, locator_value, IsFalling, beside_lost, scaled_word}
use Rattle.galois.proofs.Sums.{length-word_sum, add_again, add_nought}
use Rattle.galois.proofs.CheckWords.{check_sum-word_sum}
use Rattle.galois.proofs.KeyEquation.{length-scaled_word}
use Rattle.galois.proofs.Lost.{scaled_known, vanishes_beside}
use Rattle.galois.proofs.Locators.{located_vanishes}
use Rattle.galois.proofs.LocatorRoots.{few_places}
use Rattle.rs_decode.specs.Syndromes.{AreSyndromes, AreLowered}
use Rattle.rs_decode.specs.Search.{AreSearched, AreErrorPlaces}
use Rattle.rs_decode.specs.Values.{IsErrorAt, power_sum, power_sums}
use Rattle.rs_decode.proofs.Places.{power_sum-error}
use Rattle.rs_decode.proofs.Slices.{taken_all}

module _ {A : Type 0} {nought unit : A} {plus times : A → A → A} {inverse : A → A} {power : ℕ → A} {order : ℕ} (laws : IsField nought unit plus times inverse power order) where
  added_twice : (v w : List A) → length w ≡ length v → word_sum plus v (word_sum plus v w) ≡ w
  unfolding word_sum
  added_twice [] [] same = refl
  added_twice [] (y ∷ w) same = absurd (omega arith)
  added_twice (x ∷ v) [] same = absurd (omega arith)
  added_twice (x ∷ v) (y ∷ w) same = rw (add_again laws x y, added_twice v w (omega arith)) refl

  length-power_sums : (places : List ℕ) (values : List A) (from count : ℕ) → length (power_sums nought plus times power places values from count) ≡ count
  unfolding power_sums
  length-power_sums places values from zero = refl
  length-power_sums places values from (suc count) = ap suc (length-power_sums places values (suc from) count)

  power_sums_at : (places : List ℕ) (values : List A) (from count k : ℕ) (d : A) → k < count →
      get_or (power_sums nought plus times power places values from count) k d ≡ power_sum nought plus times power places values (from + k)
  unfolding power_sums
  power_sums_at places values from zero k d below = absurd (omega arith)
  power_sums_at places values from (suc count) zero d below = ap (power_sum nought plus times power places values) (sym (add-zero from))
  power_sums_at places values from (suc count) (suc k) d below =
      power_sums_at places values (suc from) count k d (omega arith) ∙ ap (power_sum nought plus times power places values) (let e : suc from + k ≡ from + suc k = omega arith in e)

  module _ (equal : A → A → Bool) (decides : (a b : A) → Decides (equal a b) (a ≡ b)) where
    pub nearest_is : (word other syndromes left fixed : List A) (lost : List Bool) (places : List ℕ) → length word ≤ order → length syndromes ≤ length word →
        IsNearKnown nought plus times power equal (length syndromes) lost word other →
        AreSyndromes nought plus times power word syndromes →
        length left + lost_count lost ≡ length syndromes → AreLowered nought plus times power (length word) lost syndromes left →
        AreErrorPlaces nought plus times power left lost (length word) places → length places ≤ length syndromes →
        ((bound : ℕ) (values error : List A) → IsFalling bound places → bound ≤ order →
        take (length places) syndromes ≡ power_sums nought plus times power places values 0 (length places) →
        IsErrorAt nought times power places values error → length error ≡ length word → fixed ≡ word_sum plus word error) →
        other ≡ fixed
    nearest_is word other syndromes left fixed lost places fits few near are counted low found enough mends =
        let half : ℕ = length left / 2 in
        let error : List A = word_sum plus word other in
        let masked : List A = scaled_word times low.factor error in
        let same : length word ≡ length other = sym near.long in
        let long : length error ≡ length word = length-word_sum laws word other same ∙ near.long in
        let sums : (k : ℕ) → 1 ≤ k → k ≤ length syndromes → check_sum nought plus times power word k ≡ check_sum nought plus times power error k =
        λ k least most. sym (check_sum-word_sum laws word other k same ∙ ap (plus (check_sum nought plus times power word k)) (near.check.root k least most) ∙ add_nought laws (check_sum nought plus times power word k)) in
        let at : (t : ℕ) → t < length syndromes → get_or syndromes t nought ≡ check_sum nought plus times power error (suc t) =
        λ t below. are.sum t below ∙ ap (check_sum nought plus times power word) (add-one t) ∙ sums (suc t) (omega arith) (omega arith) in
        let of_masked : AreSyndromes nought plus times power masked left =
        low.sums error (record { sum = λ k below. at k below ∙ ap (check_sum nought plus times power error) (sym (add-one k)) }) in
        let wrong : count_by (λ x. not (equal x nought)) masked ≤ half =
        omega (arith, scaled_known laws equal decides lost low.factor word other same low.at_lost, near.near, counted) in
        let masked_vanishes : VanishesAt nought (locator_value nought plus times power found.locator) masked =
        located_vanishes laws equal decides (λ t. get_or left t nought) half found.locator masked found.locates
        (omega (arith, long, length-scaled_word laws low.factor error, fits))
        (λ t below. of_masked.sum t (omega (arith, below)) ∙ ap (check_sum nought plus times power masked) (add-one t)) wrong in
        let vanishes : VanishesAt nought (beside_lost nought (length word) lost (locator_value nought plus times power found.locator)) error =
        vanishes_beside laws (length word) lost low.factor (locator_value nought plus times power found.locator) error (omega (arith, long)) low.at_known masked_vanishes in
        let (values, is) = found.searched.errors.finds error long vanishes in
        let sums_are : take (length places) syndromes ≡ power_sums nought plus times power places values 0 (length places) =
        ext_get_or nought (take (length places) syndromes) (power_sums nought plus times power places values 0 (length places))
        (taken_all syndromes (length places) enough ∙ sym (length-power_sums places values 0 (length places)))
        (λ k below. let below' : k < length places = let e : length (take (length places) syndromes) ≡ length places = taken_all syndromes (length places) enough in omega (arith, e, below) in
        get_or-take (length places) syndromes k nought below' ∙ at k (omega arith) ∙ sym (power_sum-error laws places values error k is) ∙
        sym (power_sums_at places values 0 (length places) k nought below' ∙ ap (power_sum nought plus times power places values) (zero-add k))) in
        sym (mends (length word) values error found.searched.falling fits sums_are is long ∙ added_twice word other near.long)

    pub count_few : (series : ℕ → A) (half : ℕ) (locator : List A) (bound : ℕ) (lost : List Bool) (places : List ℕ) (count long : ℕ) → IsLocator nought plus times series half locator →
        AreSearched nought times power (beside_lost nought bound lost (locator_value nought plus times power locator)) bound (drop (long - count) places) →
        bound ≤ order → length places ≡ long → count ≤ long → count ≤ lost_count lost + half
    count_few series half locator bound lost places count long locates searched fits same within =
        let e : length (drop (long - count) places) ≡ length places - (long - count) = length-drop (long - count) places in
        let f : length (drop (long - count) places) < length locator + lost_count lost =
        few_places laws equal decides locator bound lost (drop (long - count) places) fits locates.some searched.falling searched.roots in
        omega (arith, e, f, locates.short)
