-- registers that are divided by the generator polynomial, one coefficient at a time
use Rattle.std.specs.Prelude.{ℕ, List, [], ◌∷◌, ◌++◌, length}
use Rattle.galois.specs.CheckWord.{IsCheckWord}

-- The registers complete what is fed to a check word, in which they are the check elements.
abbrev pub Completes : {A : Type 0} (nought : A) (plus times : A → A → A) (power : ℕ → A) (fed registers : List A) → Type 0
Completes nought plus times power fed registers = IsCheckWord nought plus times power (fed ++ registers) (length registers)

-- The registers behind the first one, moved up by one place, plus a factor times the generator's coefficients.
unfoldable pub moved : {A : Type 0} (plus times : A → A → A) (power : ℕ → A) (factor : A) (behind : List A) (exponents : List ℕ) → List A
moved plus times power factor behind [] = []
moved plus times power factor [] (e ∷ exponents) = times factor (power e) ∷ []
moved plus times power factor (r ∷ behind) (e ∷ exponents) = plus r (times factor (power e)) ∷ moved plus times power factor behind exponents
