-- the places at which a locator vanishes are fewer than its coefficients
use Rattle.std.proofs.Common.{◌≡◌, ◌≢◌, ℕ, zero, suc, ◌+◌, ◌*◌, ◌<◌, ◌≤◌, sym, ◌∙◌, ap, refl, arith, List, [], ◌∷◌, ◌++◌, length, replicate, reverse, Bool, true, false, cond, add-one, inl, inr}
use Rattle.std.specs.Prelude.{All, if◌then◌else◌}
use Rattle.std.specs.Bool.{Decides}
use Rattle.std.proofs.lemmas.Grind.{reverse_onto, replicate_next}
use Rattle.std.proofs.lemmas.List.{reverse-reverse, length-reverse}
use Rattle.std.proofs.lemmas.List.Elements.{All-head, All-tail}
use Rattle.std.proofs.lemmas.Bool.{cases_lt, cases_Bool}
use Rattle.std.proofs.Math.Nat.{eq-or-lt_of_le}
use Rattle.galois.specs.Field.{IsField}
use Rattle.std.proofs.lemmas.List.Sums.{sum_by-cons}
use Rattle.galois.specs.CheckWord.{weighted_sum, lost_count}
use Rattle.galois.proofs.Lost.{lost_here, lost_there}
use Rattle.galois.specs.Coefficients.{coefficients_value}
use Rattle.galois.specs.Locator.{locator_value, IsFalling, no_places, place_below, is_lost_place, beside_lost}
use Rattle.galois.proofs.Sums.{raised, raised-power, same_weights}
use Rattle.galois.proofs.Roots.{roots_below, many_roots, weighted_sum-reverse}

reverse-replicate : {A : Type 0} (n : ℕ) (x : A) → reverse (replicate n x) ≡ replicate n x
reverse-replicate zero x = refl
reverse-replicate (suc n) x = reverse_onto (replicate n x) x [] ∙ ap (λ l. l ++ x ∷ []) (reverse-replicate n x) ∙ sym (replicate_next n x) ∙ ap (λ (k : ℕ). replicate k x) (add-one n)

-- how many places below a bound are marked
unfoldable marked_below : (ℕ → Bool) → ℕ → ℕ
marked_below marked zero = 0
marked_below marked (suc n) = (if marked n then 1 else 0) + marked_below marked n

mark_counts : (marked : ℕ → Bool) (n : ℕ) → marked n ≡ true → marked_below marked (suc n) ≡ 1 + marked_below marked n
unfolding marked_below
mark_counts marked n is = rw is refl

more_marked : (marked : ℕ → Bool) (m n : ℕ) → m ≤ n → marked_below marked m ≤ marked_below marked n
unfolding marked_below
more_marked marked m zero within = let e : m ≡ 0 = omega arith in rw e (omega arith)
more_marked marked m (suc n) within = elim (eq-or-lt_of_le within) [
  | inl at ↦ rw at (omega arith)
  | inr below ↦ let e : marked_below marked m ≤ marked_below marked n = more_marked marked m n (omega arith) in omega arith
]

same_marked : (f g : ℕ → Bool) (n : ℕ) → ((m : ℕ) → m < n → f m ≡ g m) → marked_below f n ≡ marked_below g n
unfolding marked_below
same_marked f g zero same = refl
same_marked f g (suc n) same = rw (same n (omega arith), same_marked f g n (λ m below. same m (omega arith))) refl

none_marked : (n : ℕ) → marked_below (λ _. false) n ≡ 0
unfolding marked_below
none_marked zero = refl
none_marked (suc n) = rw (none_marked n) refl

-- of the places of a word no more are marked than are lost
lost_marked : (n : ℕ) (lost : List Bool) → marked_below (is_lost_place n lost) n ≤ lost_count lost
unfolding marked_below
lost_marked zero lost = omega arith
lost_marked (suc n) [] = let e : marked_below (λ _. false) (suc n) ≡ 0 = none_marked (suc n) in omega (arith, e)
lost_marked (suc n) (gone ∷ lost) =
    let here : is_lost_place (suc n) (gone ∷ lost) n ≡ gone = lost_here gone lost n in
    let there : marked_below (is_lost_place (suc n) (gone ∷ lost)) n ≡ marked_below (is_lost_place n lost) n =
    same_marked (is_lost_place (suc n) (gone ∷ lost)) (is_lost_place n lost) n (λ m below. lost_there gone lost n m below) in
    let rest : marked_below (is_lost_place n lost) n ≤ lost_count lost = lost_marked n lost in
    let counted : lost_count (gone ∷ lost) ≡ cond gone 1 0 + lost_count lost = sum_by-cons (λ gone. cond gone 1 0) gone lost in
    rw (here, there, counted) (one_more gone rest)
  where
    one_more : (gone : Bool) {a b : ℕ} → a ≤ b → (if gone then 1 else 0) + a ≤ cond gone 1 0 + b
    one_more true le = omega arith
    one_more false le = omega arith

pub falling_more : (n m : ℕ) (places : List ℕ) → n ≤ m → IsFalling n places → IsFalling m places
falling_more n m _ within no_places = no_places
falling_more n m _ within (place_below below rest) = place_below (omega arith) rest

module _ {A : Type 0} {nought unit : A} {plus times : A → A → A} {inverse : A → A} {power : ℕ → A} {order : ℕ} (laws : IsField nought unit plus times inverse power order) where
  value-reversed : (locator : List A) (m : ℕ) → coefficients_value nought plus times (reverse locator) (power m) ≡ locator_value nought plus times power locator m
  unfolding locator_value
  value-reversed locator m =
      sym (weighted_sum-reverse laws (power m) (reverse locator)) ∙
      ap (weighted_sum nought plus times (raised unit times (power m))) (reverse-reverse locator) ∙
      same_weights laws (raised unit times (power m)) (λ j. power (j * m)) locator (λ j _. sym (raised-power laws j m))

  module _ (equal : A → A → Bool) (decides : (a b : A) → Decides (equal a b) (a ≡ b)) where
    abbrev roots : List A → ℕ → ℕ
    roots p n = roots_below laws equal decides power p n

    more_roots : (p : List A) (m n : ℕ) → m ≤ n → roots p m ≤ roots p n
    unfolding roots_below
    more_roots p m zero within = let e : m ≡ 0 = omega arith in rw e (omega arith)
    more_roots p m (suc n) within = elim (eq-or-lt_of_le within) [
      | inl at ↦ rw at (omega arith)
      | inr below ↦ let e : roots p m ≤ roots p n = more_roots p m n (omega arith) in omega arith
    ]

    root_counts : (p : List A) (m : ℕ) → coefficients_value nought plus times p (power m) ≡ nought → roots p (suc m) ≡ 1 + roots p m
    unfolding roots_below
    root_counts p m is = let e : equal (coefficients_value nought plus times p (power m)) nought ≡ true = (decides _ nought).1 is in rw e refl

    places_counted : (marked : ℕ → Bool) (locator : List A) (bound : ℕ) (places : List ℕ) → IsFalling bound places →
        All (λ m. (if marked m then nought else locator_value nought plus times power locator m) ≡ nought) places → length places ≤ roots (reverse locator) bound + marked_below marked bound
    places_counted marked locator bound _ no_places all = omega arith
    places_counted marked locator bound _ (place_below {place = m} {places} below rest) all =
        let value : ℕ → A = λ i. if marked i then nought else locator_value nought plus times power locator i in
        let before : length places ≤ roots (reverse locator) m + marked_below marked m = places_counted marked locator m places rest (All-tail (λ i. value i ≡ nought) m places all) in
        let more : roots (reverse locator) (suc m) ≤ roots (reverse locator) bound = more_roots (reverse locator) (suc m) bound (omega arith) in
        let more_marks : marked_below marked (suc m) ≤ marked_below marked bound = more_marked marked (suc m) bound (omega arith) in
        let head : value m ≡ nought = All-head (λ i. value i ≡ nought) m places all in
        elim (cases_Bool (marked m)) [
          | inl is ↦
              let here : marked_below marked (suc m) ≡ 1 + marked_below marked m = mark_counts marked m is in
              let kept : roots (reverse locator) m ≤ roots (reverse locator) (suc m) = more_roots (reverse locator) m (suc m) (omega arith) in
              omega arith
          | inr is ↦
              let here : roots (reverse locator) (suc m) ≡ 1 + roots (reverse locator) m =
              root_counts (reverse locator) m (value-reversed locator m ∙ rw is at head) in
              let kept : marked_below marked m ≤ marked_below marked (suc m) = more_marked marked m (suc m) (omega arith) in
              omega arith
        ]

    -- a locator other than nought vanishes at fewer places than it has coefficients, beside the lost ones
    pub few_places : (locator : List A) (bound : ℕ) (lost : List Bool) (places : List ℕ) → bound ≤ order → locator ≢ replicate (length locator) nought → IsFalling bound places →
        All (λ m. beside_lost nought bound lost (locator_value nought plus times power locator) m ≡ nought) places → length places < length locator + lost_count lost
    few_places locator bound lost places fits some falling all =
        let counted : length places ≤ roots (reverse locator) bound + marked_below (is_lost_place bound lost) bound = places_counted (is_lost_place bound lost) locator bound places falling all in
        let marks : marked_below (is_lost_place bound lost) bound ≤ lost_count lost = lost_marked bound lost in
        elim (cases_lt (roots (reverse locator) bound) (length locator)) [
          | inl fewer ↦ omega (arith, counted, marks, fewer)
          | inr many ↦
              let long : length (reverse locator) ≡ length locator = length-reverse locator in
              let noughts : reverse locator ≡ replicate (length (reverse locator)) nought =
              many_roots laws equal decides power bound (reverse locator) (λ i j a b same. laws.powers_distinct i j (omega arith) (omega arith) same) (omega arith) in
              absurd (some (sym (reverse-reverse locator) ∙ ap reverse (noughts ∙ ap (λ n. replicate n nought) long) ∙ reverse-replicate (length locator) nought))
        ]
