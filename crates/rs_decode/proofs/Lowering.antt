-- lost places taken out of syndromes, one after another
use Rattle.std.proofs.Common.{◌≡◌, ◌≢◌, ℕ, zero, suc, ◌+◌, ◌-◌, ◌*◌, ◌<◌, ◌≤◌, sym, ◌∙◌, ap, refl, arith, List, [], ◌∷◌, length, get_or, take, drop, Bool, true, false, cond, if◌then◌else◌, subst, add-zero, add-one, inl, inr}
use Rattle.std.proofs.lemmas.Bool.{cases_eq, cases_lt}
use Rattle.std.proofs.lemmas.List.{get_or-take, get_or_past}
use Rattle.std.proofs.Math.Seq.{drop-cons}
use Rattle.galois.specs.Field.{IsField}
use Rattle.std.proofs.lemmas.List.Sums.{count_by_more_yes, count_by_more_no, sum_by-cons}
use Rattle.galois.specs.CheckWord.{check_sum, lost_count}
use Rattle.galois.specs.Locator.{scaled_word}
use Rattle.galois.proofs.Sums.{add_self, mul_unit, mul_nought, product_nonzero, sum_nonzero, same_weights, sum_of_weights, scaled_weights, power_add, mul_comm, mul_assoc, mul_left, distributes, distributes_right}
use Rattle.galois.proofs.KeyEquation.{weighted_sum-scaled_word}
use Rattle.rs_decode.specs.Syndromes.{AreSyndromes, AreLowered}
use Rattle.rs_decode.specs.Values.{lowered}
use Rattle.rs_decode.proofs.Slices.{taken_most}

taken_past : (lost : List Bool) (at j : ℕ) → at ≤ j → get_or (take at lost) j false ≡ false
taken_past lost at j past = get_or_past (take at lost) j false (omega (arith, taken_most lost at))

-- one more of the list tells of its own place alone
taken_other : (lost : List Bool) (at j : ℕ) → j ≢ at → get_or (take (at + 1) lost) j false ≡ get_or (take at lost) j false
taken_other lost at j apart = elim (cases_lt j at) [
  | inl below ↦ get_or-take (at + 1) lost j false (omega arith) ∙ sym (get_or-take at lost j false below)
  | inr above ↦ taken_past lost (at + 1) j (omega (arith, apart)) ∙ sym (taken_past lost at j (omega arith))
]

pub lost_more : (lost : List Bool) (at : ℕ) (gone : Bool) → at < length lost → gone ≡ get_or lost at false →
    lost_count (take (at + 1) lost) ≡ lost_count (take at lost) + (if gone then 1 else 0)
lost_more lost at true within is = count_by_more_yes (λ g. g) lost at false within (sym is)
lost_more lost at false within is = count_by_more_no (λ g. g) lost at false within (sym is) ∙ sym (add-zero _)

pub lost_within : (lost : List Bool) (n : ℕ) → lost_count (take n lost) ≤ lost_count lost
lost_within lost zero = omega arith
lost_within [] (suc n) = omega arith
lost_within (gone ∷ lost) (suc n) =
    let f : Bool → ℕ = λ g. cond g 1 0 in
    omega (arith, sum_by-cons f gone (take n lost), sum_by-cons f gone lost, lost_within lost n)

-- while a lost place is to come, syndromes are left
pub some_left : (lost : List Bool) (at taken most : ℕ) → at < length lost → taken ≡ lost_count (take at lost) → lost_count lost ≤ most →
    get_or lost at false ≡ true → taken < most
some_left lost at taken most within counted few gone =
    omega (arith, lost_more lost at true within (sym gone), lost_within lost (at + 1), counted, few)

module _ {A : Type 0} {nought unit : A} {plus times : A → A → A} {inverse : A → A} {power : ℕ → A} {order : ℕ} (laws : IsField nought unit plus times inverse power order) where
  pub length-lowered : (f first : A) (sums : List A) → length (lowered plus times f first sums) ≡ length sums
  unfolding lowered
  length-lowered f first [] = refl
  length-lowered f first (x ∷ sums) = ap suc (length-lowered f x sums)

  lowered_at : (f first : A) (sums : List A) (k : ℕ) (d : A) → k < length sums →
      get_or (lowered plus times f first sums) k d ≡ plus (get_or sums k d) (times (get_or (first ∷ sums) k d) f)
  unfolding lowered
  lowered_at f first [] k d below = absurd (omega arith)
  lowered_at f first (x ∷ sums) zero d below = refl
  lowered_at f first (x ∷ sums) (suc k) d below = lowered_at f x sums k d (omega arith)

  lowered_weight : (a u v w q : A) → w ≡ times q u → times (times a (plus u v)) q ≡ plus (times a w) (times v (times a q))
  lowered_weight a u v w q is = rw is (simp (mul_comm laws, mul_assoc laws, mul_left laws, distributes laws, distributes_right laws))

  -- the check sums of a word, each element times the factor of its place and the place itself less another one
  lowered_sum : (factor : ℕ → A) (p : ℕ) (word : List A) (k : ℕ) →
      check_sum nought plus times power (scaled_word times (λ m. times (factor m) (plus (power m) (power p))) word) (k + 1) ≡
      plus (check_sum nought plus times power (scaled_word times factor word) (k + 1 + 1))
      (times (check_sum nought plus times power (scaled_word times factor word) (k + 1)) (power p))
  unfolding check_sum
  lowered_sum factor p word k =
      let next : (m : ℕ) → power ((k + 1 + 1) * m) ≡ times (power ((k + 1) * m)) (power m) =
      λ m. let e : (k + 1 + 1) * m ≡ (k + 1) * m + m = omega arith in ap power e ∙ power_add laws ((k + 1) * m) m in
      weighted_sum-scaled_word laws (λ m. times (factor m) (plus (power m) (power p))) (λ m. power ((k + 1) * m)) word ∙
      same_weights laws _ (λ m. plus (times (factor m) (power ((k + 1 + 1) * m))) (times (power p) (times (factor m) (power ((k + 1) * m))))) word
      (λ m _. lowered_weight (factor m) (power m) (power p) (power ((k + 1 + 1) * m)) (power ((k + 1) * m)) (next m)) ∙
      sum_of_weights laws (λ m. times (factor m) (power ((k + 1 + 1) * m))) (λ m. times (power p) (times (factor m) (power ((k + 1) * m)))) word ∙
      rw (
        scaled_weights laws (power p) (λ m. times (factor m) (power ((k + 1) * m))) word,
        weighted_sum-scaled_word laws factor (λ m. power ((k + 1 + 1) * m)) word,
        weighted_sum-scaled_word laws factor (λ m. power ((k + 1) * m)) word,
      )
      (ap (plus _) (mul_comm laws _ _))

  scaled_unit : (word : List A) → scaled_word times (λ _. unit) word ≡ word
  unfolding scaled_word
  scaled_unit [] = refl
  scaled_unit (x ∷ word) = rw (scaled_unit word, mul_unit laws x) refl

  pub lowered_none : (long : ℕ) (syndromes : List A) → AreLowered nought plus times power long [] syndromes syndromes
  lowered_none long syndromes = record {
    factor = λ _. unit;
    at_lost = λ place below is. absurd (let contrary : false ≡ true = is in (cc));
    at_known = λ place below is none. laws.power_nonzero 0 (laws.power_zero ∙ none);
    sums = λ word are. subst (λ w. AreSyndromes nought plus times power w syndromes) (sym (scaled_unit word)) are;
  }

  module _ (long : ℕ) (lost : List Bool) (at : ℕ) (within : at < length lost) (alike : length lost ≤ long) where
    place_of : (m : ℕ) → m < long → long - 1 - m ≡ at → m ≡ long - 1 - at
    place_of m below is = omega (arith, below, is)

    -- a known place changes nothing
    pub lowered_known : (all left : List A) → get_or lost at false ≡ false →
        AreLowered nought plus times power long (take at lost) all left → AreLowered nought plus times power long (take (at + 1) lost) all left
    lowered_known all left known are =
        let same : (j : ℕ) → get_or (take (at + 1) lost) j false ≡ get_or (take at lost) j false =
        λ j. elim (cases_eq j at) [
          | inl is ↦ rw is (get_or-take (at + 1) lost at false (omega arith) ∙ known ∙ sym (taken_past lost at at (omega arith)))
          | inr apart ↦ taken_other lost at j apart
        ] in
        record {
          factor = are.factor;
          at_lost = λ place below is. are.at_lost place below (sym (same (long - 1 - place)) ∙ is);
          at_known = λ place below is. are.at_known place below (sym (same (long - 1 - place)) ∙ is);
          sums = are.sums;
        }

    -- a lost place is taken out
    pub lowered_lost : (all left : List A) (first : A) (after : List A) → long ≤ order → get_or lost at false ≡ true →
        after ≡ lowered plus times (power (long - 1 - at)) first left →
        AreLowered nought plus times power long (take at lost) all (first ∷ left) → AreLowered nought plus times power long (take (at + 1) lost) all after
    lowered_lost all left first after fits gone is_after are =
        let p : ℕ = long - 1 - at in
        let here : get_or (take (at + 1) lost) at false ≡ true = get_or-take (at + 1) lost at false (omega arith) ∙ gone in
        record {
          factor = λ m. times (are.factor m) (plus (power m) (power p));
          at_lost = λ place below is. elim (cases_eq (long - 1 - place) at) [
            | inl same ↦
                let e : place ≡ long - 1 - at = place_of place below same in
                ap (times (are.factor place)) (ap (λ (m : ℕ). plus (power m) (power p)) e ∙ add_self laws (power p)) ∙ mul_nought laws (are.factor place)
            | inr apart ↦
                let e : are.factor place ≡ nought = are.at_lost place below (sym (taken_other lost at (long - 1 - place) apart) ∙ is) in
                rw e (mul_comm laws nought _ ∙ mul_nought laws _)
          ];
          at_known = λ place below is. elim (cases_eq (long - 1 - place) at) [
            | inl same ↦
                let contrary : true ≡ false = sym here ∙ ap (λ (j : ℕ). get_or (take (at + 1) lost) j false) (sym same) ∙ is in absurd (cc)
            | inr apart ↦
                product_nonzero laws (are.factor place) (plus (power place) (power p))
                (are.at_known place below (sym (taken_other lost at (long - 1 - place) apart) ∙ is))
                (sum_nonzero laws (power place) (power p)
                (λ e. let at_place : place ≡ p = laws.powers_distinct place p (omega (arith, below, fits)) (omega (arith, within, alike, fits)) e in
                apart (omega (arith, at_place, within, alike))))
          ];
          sums = λ word of_all.
              let before : AreSyndromes nought plus times power (scaled_word times are.factor word) (first ∷ left) = are.sums word of_all in
              record {
                sum = λ k below.
                    let inside : k < length left = omega (arith, below, ap length is_after, length-lowered (power p) first left) in
                    ap (λ l. get_or l k nought) is_after ∙ lowered_at (power p) first left k nought inside ∙
                    rw (before.sum k (omega (arith, inside)), sym (next k) ∙ before.sum (k + 1) (omega (arith, inside))) (sym (lowered_sum are.factor p word k));
              };
        }
      where
        next : (k : ℕ) → get_or (first ∷ left) (k + 1) nought ≡ get_or left k nought
        next k = let e : k + 1 ≡ suc k = omega arith in ap (λ (j : ℕ). get_or (first ∷ left) j nought) e

    -- one place more, as the loop takes it
    pub lowered_more : (all old new : List A) (taken result : ℕ) (gone : Bool) → long ≤ order → gone ≡ get_or lost at false →
        (gone ≡ true → taken < length old) → result ≡ taken + (if gone then 1 else 0) →
        (gone ≡ true → drop (taken + 1) new ≡ lowered plus times (power (long - 1 - at)) (get_or old taken nought) (drop (taken + 1) old)) →
        (gone ≡ false → new ≡ old) →
        AreLowered nought plus times power long (take at lost) all (drop taken old) → AreLowered nought plus times power long (take (at + 1) lost) all (drop result new)
    lowered_more all old new taken result true fits is_gone inside is_result is_lost is_known are =
        let rest : drop taken old ≡ get_or old taken nought ∷ drop (taken + 1) old =
        drop-cons old taken nought (inside refl) ∙ ap (λ (k : ℕ). get_or old taken nought ∷ drop k old) (sym (add-one taken)) in
        lowered_lost all (drop (taken + 1) old) (get_or old taken nought) (drop result new) fits
        (sym is_gone) (ap (λ (k : ℕ). drop k new) is_result ∙ is_lost refl)
        (subst (λ l. AreLowered nought plus times power long (take at lost) all l) rest are)
    lowered_more all old new taken result false fits is_gone inside is_result is_lost is_known are =
        let same : drop taken old ≡ drop result new = ap (λ l. drop taken l) (sym (is_known refl)) ∙ ap (λ (k : ℕ). drop k new) (sym (is_result ∙ add-zero taken)) in
        lowered_known all (drop result new) (sym is_gone)
        (subst (λ l. AreLowered nought plus times power long (take at lost) all l) same are)
