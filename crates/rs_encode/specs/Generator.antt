-- the generator polynomial, by the exponents of its coefficients
use Rattle.std.specs.Prelude.{◌≡◌, ℕ, suc, ◌<◌, List, ◌∷◌, All, length, map}
use Rattle.galois.specs.CheckWord.{IsCheckWord}

-- The exponents, each below `order`, of the coefficients behind the leading one, the highest first, of a polynomial with the
-- roots alpha to the power 1, 2 and so on up to its degree (ISO/IEC 24778, Reed-Solomon error correction).
pub record IsGenerator {A : Type 0} (nought unit : A) (plus times : A → A → A) (power : ℕ → A) (order : ℕ) (exponents : List ℕ) : Type 0 where
  pub below : All (λ exponent. exponent < order) exponents
  pub divides : IsCheckWord nought plus times power (unit ∷ map power exponents) (length exponents)

-- A coefficient's exponent and the next one's, behind whose coefficient `behind` more are, of `count` behind the leading one.
abbrev pub IsNext : {A : Type 0} (plus times : A → A → A) (power : ℕ → A) (count behind before next : ℕ) → Type 0
IsNext plus times power count behind before next =
    times (power next) (plus (power behind) (power count)) ≡ times (power before) (plus (power count) (times (power count) (power (suc behind))))
