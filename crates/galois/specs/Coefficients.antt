-- polynomials over a field as lists of coefficients, the lowest first
use Rattle.std.specs.Prelude.{ℕ, zero, suc, List, [], ◌∷◌, ◌++◌, take, drop}

-- The value at `x` of the polynomial with these coefficients, the lowest first.
unfoldable pub coefficients_value : {A : Type 0} (nought : A) (plus times : A → A → A) → List A → A → A
coefficients_value nought plus times [] x = nought
coefficients_value nought plus times (a ∷ coefficients) x = plus a (times x (coefficients_value nought plus times coefficients x))

-- The coefficient of a power of x in the product of a polynomial and a series, each the lowest coefficient first.
unfoldable pub product_coefficient : {A : Type 0} (nought : A) (plus times : A → A → A) (series : ℕ → A) → List A → ℕ → A
product_coefficient nought plus times series [] t = nought
product_coefficient nought plus times series (a ∷ polynomial) zero = times a (series zero)
product_coefficient nought plus times series (a ∷ polynomial) (suc t) =
    plus (times a (series (suc t))) (product_coefficient nought plus times series polynomial t)

-- The sum of all elements.
unfoldable pub total : {A : Type 0} (nought : A) (plus : A → A → A) → List A → A
total nought plus [] = nought
total nought plus (x ∷ list) = plus x (total nought plus list)

-- A list to which a multiple of another is added, place by place.
unfoldable pub added : {A : Type 0} (plus times : A → A → A) (factor : A) → List A → List A → List A
added plus times factor [] source = []
added plus times factor (x ∷ target) [] = x ∷ target
added plus times factor (x ∷ target) (y ∷ source) = plus x (times factor y) ∷ added plus times factor target source

-- A polynomial to which a multiple of another and of a power of x is added.
unfoldable pub added_behind : {A : Type 0} (plus times : A → A → A) (factor : A) → ℕ → List A → List A → List A
added_behind plus times factor shift target source = take shift target ++ added plus times factor (drop shift target) source

-- The series of the polynomial one.
unfoldable pub lead : {A : Type 0} (nought unit : A) → ℕ → A
lead nought unit zero = unit
lead nought unit (suc t) = nought
