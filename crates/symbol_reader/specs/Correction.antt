-- The correction of words whose check elements tell what was damaged.
use Rattle.std.specs.Prelude.{◌≡◌, ℕ, Bool, List, Option, Some, None}
use Rattle.galois.specs.CheckNumbers.{IsNearIn, known_apart}
use Rattle.galois.specs.CheckWord.{lost_count}
use Rattle.symbol_reader.specs.declared.correction.Correction.{Correction}

-- The only check word that is near a word of which some places are lost (ISO/IEC 24778, Reed-Solomon error correction).
pub record IsOnlyNear (bits poly check : ℕ) (lost : List Bool) (word other : List ℕ) : Type 0 where
  pub near : IsNearIn bits poly check lost word other
  pub only : (another : List ℕ) → IsNearIn bits poly check lost word another → another ≡ other

-- No check word is as near as that (ISO/IEC 24778, Reed-Solomon error correction).
abbrev pub HasNoneNear : (bits poly check : ℕ) (lost : List Bool) (word : List ℕ) → Type 0
HasNoneNear bits poly check lost word = (other : List ℕ) → IsNearIn bits poly check lost word other → ⊥

-- What a word is corrected to: the only near check word, the number of known places at which they differ and that of the lost
-- places; or nothing where there is none.
abbrev pub IsCorrectionOf : (bits poly check : ℕ) (lost : List Bool) (word : List ℕ) → Option Correction → Type 0
IsCorrectionOf bits poly check lost word (Some correction) =
    IsOnlyNear bits poly check lost word correction.words × (correction.errors ≡ known_apart lost word correction.words)
    × (correction.gone ≡ lost_count lost)
IsCorrectionOf bits poly check lost word None = HasNoneNear bits poly check lost word
