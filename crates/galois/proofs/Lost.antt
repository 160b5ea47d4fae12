-- words of which some places are lost: what their known places tell
use Rattle.std.proofs.Common.{◌≡◌, ◌≢◌, ℕ, suc, ◌+◌, ◌-◌, ◌*◌, ◌<◌, ◌≤◌, sym, ◌∙◌, ap, refl, arith, List, [], ◌∷◌, length, get_or, Bool, true, false, not, cond, inl, inr}
use Rattle.std.specs.Prelude.{if◌then◌else◌, ◌||◌}
use Rattle.std.specs.List.{count_by}
use Rattle.std.specs.Bool.{Decides}
use Rattle.std.proofs.lemmas.Bool.{cases_Bool}
use Rattle.std.proofs.lemmas.List.Sums.{sum_by-cons}
use Rattle.galois.specs.Field.{IsField}
use Rattle.galois.specs.CheckWord.{distance, known_distance, lost_count, word_sum, IsCheckWord, IsNear, IsNearKnown}
use Rattle.galois.specs.Locator.{VanishesAt, nowhere, here_too, scaled_word, is_lost_place, beside_lost}
use Rattle.galois.proofs.Sums.{mul_nought, product_nonzero, length-word_sum}
use Rattle.galois.proofs.CheckWords.{at_most_one, distance_self, distance-word_sum, same_check_word, sum_tells}
use Rattle.galois.proofs.KeyEquation.{scaled_fewer, length-scaled_word}

pub lost_here : (gone : Bool) (lost : List Bool) (n : ℕ) → is_lost_place (suc n) (gone ∷ lost) n ≡ gone
lost_here gone lost n = let e : suc n - 1 - n ≡ 0 = omega arith in ap (λ (k : ℕ). get_or (gone ∷ lost) k false) e

pub lost_there : (gone : Bool) (lost : List Bool) (n m : ℕ) → m < n → is_lost_place (suc n) (gone ∷ lost) m ≡ is_lost_place n lost m
lost_there gone lost n m below = let e : suc n - 1 - m ≡ suc (n - 1 - m) = omega arith in ap (λ (k : ℕ). get_or (gone ∷ lost) k false) e

lost_cons : (gone : Bool) (lost : List Bool) → lost_count (gone ∷ lost) ≡ cond gone 1 0 + lost_count lost
lost_cons gone lost = sum_by-cons (λ gone. cond gone 1 0) gone lost

module _ {A : Type 0} (equal : A → A → Bool) where
  -- lost places and known ones that differ are all that differ
  pub distance_known : (lost : List Bool) (word other : List A) → distance equal word other ≤ known_distance equal lost word other + lost_count lost
  unfolding distance known_distance
  distance_known [] word other = omega arith
  distance_known (gone ∷ lost) [] other = omega arith
  distance_known (gone ∷ lost) (x ∷ word) [] = omega arith
  distance_known (true ∷ lost) (x ∷ word) (y ∷ other) =
      omega (arith, lost_cons true lost, distance_known lost word other, at_most_one (equal x y))
  distance_known (false ∷ lost) (x ∷ word) (y ∷ other) =
      omega (arith, lost_cons false lost, distance_known lost word other)

module _ {A : Type 0} {nought unit : A} {plus times : A → A → A} {inverse : A → A} {power : ℕ → A} {order : ℕ} (laws : IsField nought unit plus times inverse power order) where
  -- a factor that is nought at the lost places alone leaves a word nought there alone
  pub vanishes_beside : (long : ℕ) (lost : List Bool) (factor value : ℕ → A) (error : List A) → length error ≤ long →
      ((place : ℕ) → place < long → is_lost_place long lost place ≡ false → factor place ≢ nought) →
      VanishesAt nought value (scaled_word times factor error) → VanishesAt nought (beside_lost nought long lost value) error
  unfolding scaled_word
  vanishes_beside long lost factor value [] within known _ = nowhere
  vanishes_beside long lost factor value (x ∷ error) within known (here_too here rest) =
      here_too {word = error}
      (λ some. elim (cases_Bool (is_lost_place long lost (length error))) [
        | inl gone ↦ ap (λ (b : Bool). if b then nought else value (length error)) gone
        | inr kept ↦
            ap (λ (b : Bool). if b then nought else value (length error)) kept ∙
            ap value (sym (length-scaled_word laws factor error)) ∙
            here (product_nonzero laws x (factor (length error)) some (known (length error) (omega arith) kept))
      ])
      (vanishes_beside long lost factor value error (omega arith) known rest)

  module _ (equal : A → A → Bool) (decides : (a b : A) → Decides (equal a b) (a ≡ b)) where
    pub known_self : (lost : List Bool) (word : List A) → known_distance equal lost word word ≡ 0
    unfolding known_distance
    known_self [] word = distance_self laws equal decides word
    known_self (gone ∷ lost) [] = refl
    known_self (true ∷ lost) (x ∷ word) = rw (known_self lost word) refl
    known_self (false ∷ lost) (x ∷ word) = rw ((decides x x).1 refl, known_self lost word) refl

    -- a check word is near itself, where not too much is lost, and no other is
    pub known_near_itself : (lost : List Bool) (word : List A) (c : ℕ) → lost_count lost ≤ c → IsCheckWord nought plus times power word c → IsNearKnown nought plus times power equal c lost word word
    known_near_itself lost word c few is = record { long = refl; check = is; near = omega (arith, known_self lost word, few) }

    pub known_near_check_word : (lost : List Bool) (word other : List A) (c : ℕ) → length word ≤ order → IsCheckWord nought plus times power word c →
        IsNearKnown nought plus times power equal c lost word other → other ≡ word
    known_near_check_word lost word other c fits is near =
        sym (same_check_word laws equal decides word other c (sym near.long) (omega (arith, near.long, fits))
        (omega (arith, near.near, distance_known equal lost word other)) is near.check)

    -- with nothing lost
    pub near_known : (word other : List A) (c : ℕ) → IsNear nought plus times power equal c word other → IsNearKnown nought plus times power equal c [] word other
    unfolding known_distance
    near_known word other c is = record { long = is.long; check = is.check; near = omega (arith, is.near) }

    pub known_near : (word other : List A) (c : ℕ) → IsNearKnown nought plus times power equal c [] word other → IsNear nought plus times power equal c word other
    unfolding known_distance
    known_near word other c is = record { long = is.long; check = is.check; near = let n : 2 * distance equal word other + 0 ≤ c = is.near in omega (arith, n) }

    abbrev differs_here : A → ℕ
    differs_here x = cond (not (equal x nought)) 1 0

    nought_counts : (x : A) → x ≡ nought → differs_here x ≡ 0
    nought_counts x is = let f : Bool → ℕ = λ b. cond (not b) 1 0 in ap f ((decides x nought).1 is)

    one_fewer : (x f : A) → differs_here (times x f) ≤ (if equal x nought then 0 else 1)
    one_fewer x f = elim (cases_Bool (equal x nought)) [
      | inl is ↦
          let e : times x f ≡ nought = rw ((decides x nought).0 is) (nought_times f) in
          let z : differs_here (times x f) ≡ 0 = nought_counts (times x f) e in
          omega (arith, z)
      | inr is ↦ rw is (most (equal (times x f) nought))
    ]
      where
        nought_times : (f : A) → times nought f ≡ nought
        nought_times f = laws.mul_comm nought f ∙ mul_nought laws f

        most : (b : Bool) → cond (not b) 1 0 ≤ 1
        most true = omega arith
        most false = omega arith

    -- the error, with factors that are nought at the lost places, is wrong at no more places than known ones differ
    pub scaled_known : (lost : List Bool) (factor : ℕ → A) (word other : List A) → length word ≡ length other →
        ((place : ℕ) → place < length word → is_lost_place (length word) lost place ≡ true → factor place ≡ nought) →
        count_by (λ x. not (equal x nought)) (scaled_word times factor (word_sum plus word other)) ≤ known_distance equal lost word other
    unfolding known_distance scaled_word word_sum
    scaled_known [] factor word other same at =
        omega (arith, scaled_fewer laws equal decides factor (word_sum plus word other), distance-word_sum laws equal decides word other same)
    scaled_known (gone ∷ lost) factor [] other same at = omega arith
    scaled_known (gone ∷ lost) factor (x ∷ word) [] same at = absurd (omega arith)
    scaled_known (gone ∷ lost) factor (x ∷ word) (y ∷ other) same at =
        let long : length (word_sum plus word other) ≡ length word = length-word_sum laws word other (omega arith) ∙ sym (omega arith) in
        let rest : count_by (λ x. not (equal x nought)) (scaled_word times factor (word_sum plus word other)) ≤ known_distance equal lost word other =
        scaled_known lost factor word other (omega arith) (λ place below is. at place (omega arith) (lost_there gone lost (length word) place below ∙ is)) in
        let cons : _ = sum_by-cons (λ x. cond (not (equal x nought)) 1 0) (times (plus x y) (factor (length (word_sum plus word other)))) (scaled_word times factor (word_sum plus word other)) in
        omega (arith, cons, rest, head gone refl long)
      where
        head : (b : Bool) → gone ≡ b → length (word_sum plus word other) ≡ length word →
            differs_here (times (plus x y) (factor (length (word_sum plus word other)))) ≤ (if b || equal x y then 0 else 1)
        head true is long =
            let e : times (plus x y) (factor (length (word_sum plus word other))) ≡ nought =
            ap (λ (k : ℕ). times (plus x y) (factor k)) long ∙ ap (times (plus x y)) (at (length word) (omega arith) (lost_here gone lost (length word) ∙ is)) ∙ mul_nought laws (plus x y) in
            let z : _ = nought_counts (times (plus x y) (factor (length (word_sum plus word other)))) e in
            omega (arith, z)
        head false is long =
            let z : _ = one_fewer (plus x y) (factor (length (word_sum plus word other))) in
            rw (sum_tells laws equal decides x y) at z
