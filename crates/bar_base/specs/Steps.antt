-- Steps of a definition: each says which values it may give and which refusals, and the next one goes on from its value.
use Rattle.std.specs.Prelude.{◌≡◌, ◌⊎◌, Result, Ok, Err}

-- What a step may answer: which values, and which refusals.
abbrev pub Step : Type 0 → Type 0 → Type 1
Step A E = Result A E → Type 0

-- A step and the one after it: a refusal of the first, or what the second answers to a value of the first.
abbrev pub Then : {A B E : Type 0} → Step A E → (A → Step B E) → Step B E
Then {A} first second (Ok value) = (x : A) × first (Ok x) × second x (Ok value)
Then {A} first second (Err refusal) = first (Err refusal) ⊎ ((x : A) × first (Ok x) × second x (Err refusal))

-- A step and the one after it, written with a sign between the two.
infixl 10 ◌>>=◌
abbrev pub ◌>>=◌ : {A B E : Type 0} → Step A E → (A → Step B E) → Step B E
first >>= second = Then first second

-- the step with this one answer
abbrev pub only : {A E : Type 0} → Result A E → Step A E
only answer result = result ≡ answer

-- The step of a relation to values that is never refused.
abbrev pub never_refused : {A E : Type 0} → (is_value : A → Type 0) → Step A E
never_refused is_value (Ok value) = is_value value
never_refused is_value (Err refused) = ⊥
