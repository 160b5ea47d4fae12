-- Texts that have parts with commas between them.
use Rattle.std.specs.Prelude.{ℕ, Bool, ◌==◌, Option, Some, None, if◌then◌else◌, option_and_then}
use Rattle.std.specs.List.{after_first, before_first, list_any}
use Rattle.clap.specs.Words.{Text}

-- the byte is a comma
abbrev pub is_comma : ℕ → Bool
is_comma byte = byte == 44

-- what stands before the first comma and what stands behind it, where there is one
unfoldable pub parts_at_comma : Text → Option (Text × Text)
parts_at_comma t = if list_any is_comma t then Some (before_first is_comma t, after_first is_comma t) else None

-- what follows from a value, where there is one
infixl 10 ◌>>=◌
abbrev pub ◌>>=◌ : {A B : Type 0} → Option A → (A → Option B) → Option B
given >>= next = option_and_then next given
