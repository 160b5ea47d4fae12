-- The pieces of a text with escapes, as the manual of the command `zint` has them: what stands at the
-- front of a text, and what it stands for.
use Rattle.std.specs.Prelude.{ℕ, ◌+◌, ◌-◌, ◌/◌, ◌%◌, ◌==◌, ◌&&◌, Bool, List, [], ◌∷◌, find, length, take, nat_le, nat_lt, encode_utf8, Option, Some, None, if◌then◌else◌, option_map, Result, Ok, Err}
use Rattle.std.specs.Char.{digit_value}
use Rattle.std.proofs.Math.Utf8.{scalar}
use Rattle.std.specs.List.{list_all}
use Rattle.std.specs.Str.Parse.{digits_value}
use Rattle.input_escapes.specs.declared.form.NumberForm.{NumberForm}
use Rattle.input_escapes.specs.declared.form.NumberForm.TheVariants.{Decimal, Octal, Hexadecimal, Character, LongCharacter}
use Rattle.input_escapes.specs.declared.form.Value.{Value}
use Rattle.input_escapes.specs.declared.form.Value.TheVariants as value
use Rattle.input_escapes.specs.declared.piece.NoPiece.{NoPiece}
use Rattle.input_escapes.specs.declared.piece.NoPiece.TheVariants as no_piece
use Rattle.input_escapes.specs.declared.piece.Piece.{Piece}

-- bytes, by their numbers
abbrev pub Bytes : Type 0
Bytes = List ℕ

-- the letters that stand for a byte after a backslash, each with its byte: 0, E, a, b, t, n, v, f, r,
-- e, G, R and the backslash
abbrev pub letters : List (ℕ × ℕ)
letters = (48, 0) ∷ (69, 4) ∷ (97, 7) ∷ (98, 8) ∷ (116, 9) ∷ (110, 10) ∷ (118, 11) ∷ (102, 12) ∷ (114, 13)
    ∷ (101, 27) ∷ (71, 29) ∷ (82, 30) ∷ (92, 92) ∷ []

-- the byte that a letter stands for after a backslash, where it stands for one
unfoldable pub byte_of : ℕ → Option ℕ
byte_of letter = option_map (λ row. row.1) (find (λ row. row.0 == letter) letters)

-- the forms of a letter and a number: `\dNNN`, `\oNNN`, `\xNN`, `\uNNNN` and `\UNNNNNN`
abbrev pub forms : List NumberForm
forms = Decimal ∷ Octal ∷ Hexadecimal ∷ Character ∷ LongCharacter ∷ []

-- the letter of a form: d, o, x, u or U
abbrev pub letter_of : NumberForm → ℕ
letter_of Decimal = 100
letter_of Octal = 111
letter_of Hexadecimal = 120
letter_of Character = 117
letter_of LongCharacter = 85

-- the base of a form's number: 10, 8 or 16
abbrev pub base_of : NumberForm → ℕ
base_of Decimal = 10
base_of Octal = 8
base_of _ = 16

-- how many digits the number of a form has
abbrev pub digits_of : NumberForm → ℕ
digits_of Decimal = 3
digits_of Octal = 3
digits_of Hexadecimal = 2
digits_of Character = 4
digits_of LongCharacter = 6

-- the form of a letter, where it has one
unfoldable pub form_of : ℕ → Option NumberForm
form_of letter = find (λ form. letter_of form == letter) forms

-- a number up to 255 is a byte; a number up to 10FFFF that is no surrogate is a character, in UTF-8
abbrev pub one_byte : ℕ → Option Bytes
one_byte n = if nat_lt n 256 then Some (n ∷ []) else None

-- the bytes in UTF-8 of the character of a number, where it has one
abbrev pub one_character : ℕ → Option Bytes
one_character n = if scalar n then Some (encode_utf8 n) else None

-- the bytes that a number stands for in a form: a character after u or U, one byte after the other letters
unfoldable pub stands_for : NumberForm → ℕ → Option Bytes
stands_for Character n = one_character n
stands_for LongCharacter n = one_character n
stands_for _ n = one_byte n

-- all bytes are digits of the base
abbrev pub are_digits : ℕ → Bytes → Bool
are_digits base ds = list_all (λ d. nat_lt (digit_value d) base) ds

-- the number that bytes write, where all of them are digits of the base
unfoldable pub number_written : ℕ → Bytes → Option ℕ
number_written base ds = if are_digits base ds then Some (digits_value base ds) else None

-- the number of so many digits at the front of a text
unfoldable pub number_at : ℕ → ℕ → Bytes → Option ℕ
number_at base count text = if nat_lt (length text) count then None else number_written base (take count text)

-- what stands at the front of a text: nothing, a piece of a length that stands for bytes, or a
-- backslash that begins no piece
pub data Head : Type 0 where
  nothing : Head
  piece : ℕ → Bytes → Head
  unknown : Head
  short : Head
  out_of_range : Head

-- by the bytes of the number
abbrev pub bounded : ℕ → Option Bytes → Head
bounded size None = out_of_range
bounded size (Some bytes) = piece size bytes

-- by the number
abbrev pub head_of_number : NumberForm → Option ℕ → Head
head_of_number form None = short
head_of_number form (Some n) = bounded (digits_of form + 2) (stands_for form n)

-- what stands at the front, by the form of the letter and the bytes behind it
unfoldable pub number_head : NumberForm → Bytes → Head
number_head form rest = head_of_number form (number_at (base_of form) (digits_of form) rest)

-- by the form of the letter
abbrev pub form_head : Option NumberForm → Bytes → Head
form_head None rest = unknown
form_head (Some form) rest = number_head form rest

-- by the byte that the letter stands for
abbrev pub letter_head : ℕ → Option ℕ → Bytes → Head
letter_head letter (Some byte) rest = piece 2 (byte ∷ [])
letter_head letter None rest = form_head (form_of letter) rest

-- what a backslash begins, by the bytes behind it
unfoldable pub after_backslash : Bytes → Head
after_backslash [] = short
after_backslash (letter ∷ rest) = letter_head letter (byte_of letter) rest

-- a byte other than the backslash stands for itself
unfoldable pub head : Bytes → Head
head [] = nothing
head (byte ∷ rest) = if byte == 92 then after_backslash rest else piece 1 (byte ∷ [])

-- the same, as the code holds it
abbrev pub bytes_of : Value → Bytes
bytes_of (value.Byte byte) = byte ∷ []
bytes_of (value.Character c) = encode_utf8 c

-- what stands at the front, as the code answers it
abbrev pub seen : Result Piece NoPiece → Head
seen (Ok p) = piece p.length (bytes_of p.value)
seen (Err no_piece.Unknown) = unknown
seen (Err no_piece.Short) = short
seen (Err no_piece.OutOfRange) = out_of_range

-- the digit below 16, in upper case
abbrev pub hexadecimal : ℕ → ℕ
hexadecimal d = if nat_lt d 10 then 48 + d else 65 + (d - 10)

-- a byte from 32 to 126 as itself, the backslash doubled, every other byte as `\xNN`
unfoldable pub escaped : ℕ → Bytes
escaped b = if b == 92 then 92 ∷ 92 ∷ []
    else (if nat_le 32 b && nat_le b 126 then b ∷ []
    else 92 ∷ 120 ∷ hexadecimal (b / 16) ∷ hexadecimal (b % 16) ∷ [])

-- the same, where a byte from 128 on stays
unfoldable pub escaped_in_text : ℕ → Bytes
escaped_in_text b = if nat_lt b 128 then escaped b else b ∷ []
