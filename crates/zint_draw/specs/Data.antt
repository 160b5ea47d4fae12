-- The data of a message.
use Rattle.std.specs.Prelude.{◌≡◌, ◌⊎◌, ℕ, Bool, List, [], ◌∷◌, MatchBool, Result, Ok, Err}
use Rattle.input_escapes.specs.Escapes.{unknown, short, out_of_range}
use Rattle.input_escapes.specs.Texts.{StandsFor, Stops}
use Rattle.bar_base.specs.Steps.{Step, only}
use Rattle.zint_answers.specs.declared.detail.Kind.TheVariants.{Empty, Escape}
use Rattle.zint_answers.specs.declared.refusal.Refusal.{Refusal}
use Rattle.zint_answers.specs.declared.refusal.Refusal.TheVariants.{BadData}

-- A backslash that begins no escape, at the place, all before it being whole.
abbrev pub IsBadEscape : (text : List ℕ) (place : ℕ) → Type 0
IsBadEscape text place = Stops text place unknown ⊎ (Stops text place short ⊎ Stops text place out_of_range)

-- What a text with escapes stands for, or its first bad escape.
abbrev pub unescaped : (text : List ℕ) → Step (List ℕ) Refusal
unescaped text (Ok bytes) = StandsFor text bytes
unescaped text (Err refusal) = (place : ℕ) × IsBadEscape text place × (refusal ≡ BadData Escape place)

-- The data: with escapes what they stand for, and else the content itself.
unfoldable pub data_of : (escapes : Bool) → (raw : List ℕ) → Step (List ℕ) Refusal
data_of escapes raw answer = MatchBool escapes (unescaped raw answer) (only (Ok raw) answer)

-- data that is not empty
abbrev pub not_empty : (bytes : List ℕ) → Result (List ℕ) Refusal
not_empty [] = Err (BadData Empty 0)
not_empty (byte ∷ bytes) = Ok (byte ∷ bytes)
