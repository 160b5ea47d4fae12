-- words of a Reed-Solomon code: check sums, check words, the check elements of a front, the distance of two words
use Rattle.std.specs.Prelude.{◌≡◌, ℕ, ◌+◌, ◌*◌, ◌≤◌, ◌||◌, Bool, if◌then◌else◌, List, [], ◌∷◌, ◌++◌, length}
use Rattle.std.specs.List.{count_by}

-- The sum of a word's elements, each times the weight of its place. An element's place is the number of elements
-- behind it: the exponent that it has where the word is read as a polynomial, its highest coefficient first.
unfoldable pub weighted_sum : {A : Type 0} (nought : A) (plus times : A → A → A) (weight : ℕ → A) → List A → A
weighted_sum nought plus times weight [] = nought
weighted_sum nought plus times weight (x ∷ word) =
    plus (times x (weight (length word))) (weighted_sum nought plus times weight word)

-- The value of the word's polynomial at the power `k` of alpha (ISO/IEC 24778, Reed-Solomon error correction).
unfoldable pub check_sum : {A : Type 0} (nought : A) (plus times : A → A → A) (power : ℕ → A) → List A → ℕ → A
check_sum nought plus times power word k = weighted_sum nought plus times (λ place. power (k * place)) word

-- A word with `count` check elements: its polynomial has the roots alpha to the power 1, 2 and so on up to `count`
-- (ISO/IEC 24778, Reed-Solomon error correction: a multiple of the generator polynomial).
pub record IsCheckWord {A : Type 0} (nought : A) (plus times : A → A → A) (power : ℕ → A) (word : List A) (count : ℕ) : Type 0 where
  pub root : (k : ℕ) → 1 ≤ k → k ≤ count → check_sum nought plus times power word k ≡ nought

-- The check elements of a front: behind it they make a check word with as many check elements as there are of them,
-- and no other elements do (ISO/IEC 24778, Reed-Solomon error correction).
pub record IsCheckOf {A : Type 0} (nought : A) (plus times : A → A → A) (power : ℕ → A) (front check : List A) : Type 0 where
  pub word : IsCheckWord nought plus times power (front ++ check) (length check)
  pub only : (other : List A) → length other ≡ length check → IsCheckWord nought plus times power (front ++ other) (length check) → other ≡ check

-- The distance of two words of one length: the number of places at which they differ.
unfoldable pub distance : {A : Type 0} (equal : A → A → Bool) → List A → List A → ℕ
distance equal [] _ = 0
distance equal (x ∷ word) [] = 0
distance equal (x ∷ word) (y ∷ other) = (if equal x y then 0 else 1) + distance equal word other

-- The elements of two words added place by place.
unfoldable pub word_sum : {A : Type 0} (plus : A → A → A) → List A → List A → List A
word_sum plus [] _ = []
word_sum plus (x ∷ v) [] = []
word_sum plus (x ∷ v) (y ∷ w) = plus x y ∷ word_sum plus v w

-- A check word of the word's length that differs from it at no more places than half of its check elements
-- (ISO/IEC 24778, Reed-Solomon error correction).
pub record IsNear {A : Type 0} (nought : A) (plus times : A → A → A) (power : ℕ → A) (equal : A → A → Bool) (count : ℕ) (word other : List A) : Type 0 where
  pub long : length other ≡ length word
  pub check : IsCheckWord nought plus times power other count
  pub near : 2 * distance equal word other ≤ count

-- The number of known places at which two words of one length differ. A list tells which places are lost; behind its end all are known.
unfoldable pub known_distance : {A : Type 0} (equal : A → A → Bool) → List Bool → List A → List A → ℕ
known_distance equal [] word other = distance equal word other
known_distance equal (gone ∷ lost) [] _ = 0
known_distance equal (gone ∷ lost) (x ∷ word) [] = 0
known_distance equal (gone ∷ lost) (x ∷ word) (y ∷ other) =
    (if gone || equal x y then 0 else 1) + known_distance equal lost word other

-- How many places are lost.
abbrev pub lost_count : List Bool → ℕ
lost_count lost = count_by (λ gone. gone) lost

-- A check word of the word's length, where twice the number of known places at which it differs and the number of lost
-- places are together at most the number of its check elements (ISO/IEC 24778, Reed-Solomon error correction: errors and
-- erasures).
pub record IsNearKnown {A : Type 0} (nought : A) (plus times : A → A → A) (power : ℕ → A) (equal : A → A → Bool) (count : ℕ) (lost : List Bool) (word other : List A) : Type 0 where
  pub long : length other ≡ length word
  pub check : IsCheckWord nought plus times power other count
  pub near : 2 * known_distance equal lost word other + lost_count lost ≤ count
