-- the check sums of a word, the first first
use Rattle.std.specs.Prelude.{◌≡◌, ◌≢◌, ℕ, ◌+◌, ◌<◌, Bool, true, false, List, length, slice_index_or}
use Rattle.galois.specs.CheckWord.{check_sum}
use Rattle.galois.specs.Locator.{is_lost_place, scaled_word}

-- The syndromes of a word: its values at alpha, at alpha to the power 2 and so on (ISO/IEC 24778, Reed-Solomon error correction).
pub record AreSyndromes {A : Type 0} (nought : A) (plus times : A → A → A) (power : ℕ → A) (word syndromes : List A) : Type 0 where
  pub sum : (k : ℕ) → k < length syndromes → slice_index_or syndromes k nought ≡ check_sum nought plus times power word (k + 1)

-- What each syndrome becomes by one element more.
pub record AreFed {A : Type 0} (nought : A) (plus times : A → A → A) (power : ℕ → A) (element : A) (before after : List A) : Type 0 where
  pub long : length after ≡ length before
  pub each : (k : ℕ) → k < length before → slice_index_or after k nought ≡ plus element (times (slice_index_or before k nought) (power (k + 1)))

-- What is left of syndromes once lost places are taken out of them: there are factors that are nought at the lost places of a
-- word of some length, and at no other; and each word with the one syndromes has, its elements times these factors, the others
-- (ISO/IEC 24778, Reed-Solomon error correction: erasures).
pub record AreLowered {A : Type 0} (nought : A) (plus times : A → A → A) (power : ℕ → A) (long : ℕ) (lost : List Bool) (syndromes left : List A) : Type 0 where
  pub factor : ℕ → A
  pub at_lost : (place : ℕ) → place < long → is_lost_place long lost place ≡ true → factor place ≡ nought
  pub at_known : (place : ℕ) → place < long → is_lost_place long lost place ≡ false → factor place ≢ nought
  pub sums : (word : List A) → AreSyndromes nought plus times power word syndromes → AreSyndromes nought plus times power (scaled_word times factor word) left
