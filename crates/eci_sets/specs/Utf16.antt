-- The character with which bytes in UTF-16BE begin (ISO/IEC 10646, UTF-16).
use Rattle.std.specs.Prelude.{ℕ, ◌+◌, ◌*◌, List, [], ◌∷◌, Option, Some, None, if◌then◌else◌}
use Rattle.std.specs.Char.Utf16.{is_high_surrogate, is_low_surrogate, surrogate_pair_char}
use Rattle.eci_sets.specs.declared.utf16.FirstCharacter.{FirstCharacter}

-- The unit of two bytes, the high one first.
abbrev pub unit_of_bytes : ℕ → ℕ → ℕ
unit_of_bytes high low = high * 256 + low

-- The character of a pair of surrogates.
abbrev pub paired_character : ℕ → ℕ → Option FirstCharacter
paired_character high low =
    if is_low_surrogate low then Some (record { character = surrogate_pair_char high low; size = 4 }) else None

-- The character of a high surrogate and the two bytes behind it, where they are a low surrogate.
abbrev pub after_high_surrogate : ℕ → List ℕ → Option FirstCharacter
after_high_surrogate unit [] = None
after_high_surrogate unit (high ∷ []) = None
after_high_surrogate unit (high ∷ low ∷ rest) = paired_character unit (unit_of_bytes high low)

-- The character that begins with this unit, where these bytes are behind it.
abbrev pub character_from : ℕ → List ℕ → Option FirstCharacter
character_from unit rest = if is_high_surrogate unit then after_high_surrogate unit rest
    else (if is_low_surrogate unit then None else Some (record { character = unit; size = 2 }))

-- The first character; None where no unit is there, or a surrogate without its partner.
unfoldable pub first_character : List ℕ → Option FirstCharacter
first_character [] = None
first_character (high ∷ []) = None
first_character (high ∷ low ∷ rest) = character_from (unit_of_bytes high low) rest
