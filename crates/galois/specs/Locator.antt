-- error locators (ISO/IEC 24778, Reed-Solomon error correction): polynomials, the lowest coefficient first, whose product with the
-- syndromes vanishes far enough
use Rattle.std.specs.Prelude.{◌≡◌, ◌≢◌, ℕ, ◌+◌, ◌-◌, ◌*◌, ◌<◌, ◌≤◌, Bool, false, if◌then◌else◌, List, [], ◌∷◌, length, replicate, slice_index_or}
use Rattle.galois.specs.CheckWord.{weighted_sum}
use Rattle.galois.specs.Coefficients.{product_coefficient}

-- A polynomial other than nought, of a degree up to `half`, whose product with the series has no coefficients from `half` up to twice that.
pub record IsLocator {A : Type 0} (nought : A) (plus times : A → A → A) (series : ℕ → A) (half : ℕ) (locator : List A) : Type 0 where
  pub short : length locator ≤ half + 1
  pub some : locator ≢ replicate (length locator) nought
  pub vanishes : (t : ℕ) → half ≤ t → t < half + half → product_coefficient nought plus times series locator t ≡ nought

-- What a locator has at a place: its value at the inverse of alpha to the power of the place, times a power that is not nought.
unfoldable pub locator_value : {A : Type 0} (nought : A) (plus times : A → A → A) (power : ℕ → A) → List A → ℕ → A
locator_value nought plus times power locator place = weighted_sum nought plus times (λ j. power (j * place)) locator

-- A factor is nought at each place of a word whose element is not.
pub data VanishesAt {A : Type 0} (nought : A) (factor : ℕ → A) : List A → Type 0 where
  nowhere : VanishesAt nought factor []
  here_too : {x : A} {word : List A} → (x ≢ nought → factor (length word) ≡ nought) → VanishesAt nought factor word → VanishesAt nought factor (x ∷ word)

-- Places below a bound, each below the one before.
pub data IsFalling : ℕ → List ℕ → Type 0 where
  no_places : {bound : ℕ} → IsFalling bound []
  place_below : {bound place : ℕ} {places : List ℕ} → place < bound → IsFalling place places → IsFalling bound (place ∷ places)

-- A word with each element times a factor of its place.
unfoldable pub scaled_word : {A : Type 0} (times : A → A → A) (factor : ℕ → A) → List A → List A
scaled_word times factor [] = []
scaled_word times factor (x ∷ word) = times x (factor (length word)) ∷ scaled_word times factor word

-- Whether a place of a word of some length is lost, by a list for the elements from the first on. An element's place is
-- the number of elements behind it.
abbrev pub is_lost_place : (long : ℕ) (lost : List Bool) (place : ℕ) → Bool
is_lost_place long lost place = slice_index_or lost (long - 1 - place) false

-- A factor that is taken at the known places alone: at a lost one it is nought.
abbrev pub beside_lost : {A : Type 0} (nought : A) (long : ℕ) (lost : List Bool) (factor : ℕ → A) (place : ℕ) → A
beside_lost nought long lost factor place = if is_lost_place long lost place then nought else factor place
