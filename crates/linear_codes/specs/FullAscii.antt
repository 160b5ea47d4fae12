-- How the bytes of ASCII are spelled by characters (ISO/IEC 16388, full ASCII character set; AIM Code 93).
use Rattle.std.specs.Prelude.{ℕ, Bool, ◌==◌, List, slice_index}
use Rattle.linear_codes.specs.declared.full_ascii.TheConstants.{FULL_ASCII_SIGNS, FULL_ASCII_LETTERS, OWN}

-- The signs and the letters of the bytes, in their order.
unfoldable pub full_ascii_signs : List ℕ
full_ascii_signs = FULL_ASCII_SIGNS

-- The letters of the bytes, in their order.
unfoldable pub full_ascii_letters : List ℕ
full_ascii_letters = FULL_ASCII_LETTERS

-- A byte is spelled by its sign and its letter. From byte 128 on they are 0, which is no character.
unfoldable pub full_ascii_sign : (byte : ℕ) → ℕ
full_ascii_sign byte = slice_index full_ascii_signs byte

-- The letter of a byte, which stands behind its sign.
unfoldable pub full_ascii_letter : (byte : ℕ) → ℕ
full_ascii_letter byte = slice_index full_ascii_letters byte

-- The sign `=` says that the byte is a character of its own.
abbrev pub is_own : (byte : ℕ) → Bool
is_own byte = full_ascii_sign byte == OWN
