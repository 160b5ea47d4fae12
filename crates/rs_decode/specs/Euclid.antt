-- Euclid's algorithm on a power of x and the syndromes (ISO/IEC 24778, Reed-Solomon error correction: the key equation)
use Rattle.std.specs.Prelude.{◌≡◌, ℕ, ◌+◌, ◌-◌, ◌<◌, List, length, take}
use Rattle.galois.specs.Coefficients.{product_coefficient, total, lead}

-- Two remainders of Euclid's algorithm on x to the power `few` and the series, and their factors: each remainder agrees
-- with the product of its factor and the series up to that power.
pub record IsEuclid {A : Type 0} (nought unit : A) (plus times : A → A → A) (series : ℕ → A) (few : ℕ) (high high_factor low low_factor : List A) : Type 0 where
  pub high_width : length high + length low_factor ≡ few + 2
  pub low_width : length low + length high_factor ≡ few + 2
  pub high_agrees : (t : ℕ) → t < few →
      product_coefficient nought plus times series high_factor t ≡ product_coefficient nought plus times (lead nought unit) high t
  pub low_agrees : (t : ℕ) → t < few →
      product_coefficient nought plus times series low_factor t ≡ product_coefficient nought plus times (lead nought unit) low t
  pub whole : plus (times (total nought plus high) (total nought plus low_factor)) (times (total nought plus low) (total nought plus high_factor)) ≡ unit

-- Two remainders and their factors, in lists that may be longer: of the remainders the lengths are given, and the widths of their
-- factors follow.
abbrev pub HoldsEuclid : {A : Type 0} (nought unit : A) (plus times : A → A → A) (series : ℕ → A) (few : ℕ) (high high_factor low low_factor : List A) (long_high long_low : ℕ) → Type 0
HoldsEuclid nought unit plus times series few high high_factor low low_factor long_high long_low =
    IsEuclid nought unit plus times series few (take long_high high) (take (few + 2 - long_low) high_factor) (take long_low low) (take (few + 2 - long_high) low_factor)
