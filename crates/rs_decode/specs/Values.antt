-- the values of errors at known places
use Rattle.std.specs.Prelude.{ℕ, zero, suc, ◌*◌, List, [], ◌∷◌, length}

-- The sum of the values, each times a power of its place: place p stands for alpha to the power p.
unfoldable pub power_sum : {A : Type 0} (nought : A) (plus times : A → A → A) (power : ℕ → A) → List ℕ → List A → ℕ → A
power_sum nought plus times power [] values t = nought
power_sum nought plus times power (p ∷ places) [] t = nought
power_sum nought plus times power (p ∷ places) (z ∷ values) t =
    plus (times z (power (t * p))) (power_sum nought plus times power places values t)

-- The power sums from one exponent on.
unfoldable pub power_sums : {A : Type 0} (nought : A) (plus times : A → A → A) (power : ℕ → A) → List ℕ → List A → ℕ → ℕ → List A
power_sums nought plus times power places values from zero = []
power_sums nought plus times power places values from (suc count) =
    power_sum nought plus times power places values from ∷ power_sums nought plus times power places values (suc from) count

-- An error: its elements are nought but at the places, where each, times the power of alpha of its place, is the value.
pub data IsErrorAt {A : Type 0} (nought : A) (times : A → A → A) (power : ℕ → A) : List ℕ → List A → List A → Type 0 where
  none : IsErrorAt nought times power [] [] []
  right : {places : List ℕ} {values error : List A} → IsErrorAt nought times power places values error → IsErrorAt nought times power places values (nought ∷ error)
  wrong : {places : List ℕ} {values error : List A} (x : A) → IsErrorAt nought times power places values error →
      IsErrorAt nought times power (length error ∷ places) (times x (power (length error)) ∷ values) (x ∷ error)

-- power sums without one place: each is the next less the place times it
unfoldable pub lowered : {A : Type 0} (plus times : A → A → A) (factor : A) → A → List A → List A
lowered plus times factor first [] = []
lowered plus times factor first (x ∷ sums) = plus x (times first factor) ∷ lowered plus times factor x sums
