-- the search for the lost places and those at which a locator vanishes
use Rattle.std.specs.Prelude.{◌≡◌, ℕ, ◌*◌, ◌/◌, Bool, List, [], ◌∷◌, All, length, slice_index_or}
use Rattle.galois.specs.Locator.{VanishesAt, IsLocator, beside_lost, locator_value, IsFalling}
use Rattle.rs_decode.specs.Values.{IsErrorAt}

-- The terms of the value at a place.
unfoldable pub terms_at : {A : Type 0} (times : A → A → A) (power : ℕ → A) → List A → ℕ → List A
terms_at times power [] place = []
terms_at times power (a ∷ locator) place = times a (power (length locator * place)) ∷ terms_at times power locator place

-- The terms at the next place.
unfoldable pub next_terms : {A : Type 0} (times : A → A → A) (power : ℕ → A) → List A → List A
next_terms times power [] = []
next_terms times power (a ∷ terms) = times a (power (length terms)) ∷ next_terms times power terms

-- Each error of a length at whose wrong places a value is nought has values at these places.
pub record FindsErrors {A : Type 0} (nought : A) (times : A → A → A) (power : ℕ → A) (value : ℕ → A) (count : ℕ) (places : List ℕ) : Type 0 where
  pub finds : (error : List A) → length error ≡ count → VanishesAt nought value error →
      (values : List A) × IsErrorAt nought times power places values error

-- Some places below a bound, each below the one before, at which a value is nought, and with all those of an error.
pub record AreSearched {A : Type 0} (nought : A) (times : A → A → A) (power : ℕ → A) (value : ℕ → A) (bound : ℕ) (places : List ℕ) : Type 0 where
  pub falling : IsFalling bound places
  pub roots : All (λ m. value m ≡ nought) places
  pub errors : FindsErrors nought times power value bound places

-- The lost places, and those at the end of a search by an error locator of these syndromes.
pub record AreErrorPlaces {A : Type 0} (nought : A) (plus times : A → A → A) (power : ℕ → A) (syndromes : List A) (lost : List Bool) (bound : ℕ) (places : List ℕ) : Type 0 where
  pub locator : List A
  pub locates : IsLocator nought plus times (λ t. slice_index_or syndromes t nought) (length syndromes / 2) locator
  pub searched : AreSearched nought times power (beside_lost nought bound lost (locator_value nought plus times power locator)) bound places
