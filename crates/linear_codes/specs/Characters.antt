-- The characters that Code 39 and Code 93 share (ISO/IEC 16388, symbol characters; AIM Code 93).
use Rattle.std.specs.Prelude.{ℕ, ◌==◌, List, Option, position}
use Rattle.linear_codes.specs.declared.characters.TheConstants.{CHARACTERS}

-- The characters in the order of their values.
unfoldable pub characters : List ℕ
characters = CHARACTERS

-- The value of a character is its place in the table.
unfoldable pub character_value : (byte : ℕ) → Option ℕ
character_value byte = position (λ character. character == byte) characters
