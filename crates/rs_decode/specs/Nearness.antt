-- what a damaged word may be corrected to
use Rattle.std.specs.Prelude.{◌≡◌, ℕ, ◌+◌, ◌*◌, Bool, List}
use Rattle.galois.specs.CheckWord.{distance, known_distance, IsNear, IsNearKnown}

-- What correction does: the word becomes the one near check word, and the answer is how far that was.
pub record IsCorrected {A : Type 0} (nought : A) (plus times : A → A → A) (power : ℕ → A) (equal : A → A → Bool) (count : ℕ) (before after : List A) (errors : ℕ) : Type 0 where
  pub near : IsNear nought plus times power equal count before after
  pub distance_is : errors ≡ distance equal before after
  pub only : (other : List A) → IsNear nought plus times power equal count before other → other ≡ after

-- What it leaves where it corrects nothing: no check word is near, and the word stays.
pub record IsBeyond {A : Type 0} (nought : A) (plus times : A → A → A) (power : ℕ → A) (equal : A → A → Bool) (count : ℕ) (before after : List A) : Type 0 where
  pub stays : after ≡ before
  pub none : (other : List A) → IsNear nought plus times power equal count before other → ⊥

-- The same of a word of which some places are lost; the answer is at how many known places it was wrong.
pub record IsRestored {A : Type 0} (nought : A) (plus times : A → A → A) (power : ℕ → A) (equal : A → A → Bool) (count : ℕ) (lost : List Bool) (before after : List A) (errors : ℕ) : Type 0 where
  pub near : IsNearKnown nought plus times power equal count lost before after
  pub distance_is : errors ≡ known_distance equal lost before after
  pub only : (other : List A) → IsNearKnown nought plus times power equal count lost before other → other ≡ after

-- What it leaves where it restores nothing: no check word is near, and the word stays.
pub record IsLost {A : Type 0} (nought : A) (plus times : A → A → A) (power : ℕ → A) (equal : A → A → Bool) (count : ℕ) (lost : List Bool) (before after : List A) : Type 0 where
  pub stays : after ≡ before
  pub none : (other : List A) → IsNearKnown nought plus times power equal count lost before other → ⊥

-- What a room is made for: the length of the longest word, and the most check elements.
pub record RoomSize : Type 0 where
  pub longest : ℕ
  pub most : ℕ

-- The lengths of the lists of Euclid's algorithm for up to twice `half` syndromes.
pub record HasRoom (half high high_factor low low_factor : ℕ) : Type 0 where
  pub high_is : high ≡ 2 * half + 1
  pub high_factor_is : high_factor ≡ half + 2
  pub low_is : low ≡ 2 * half + 1
  pub low_factor_is : low_factor ≡ half + 2
