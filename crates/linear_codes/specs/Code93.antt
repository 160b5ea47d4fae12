-- Code 93 (AIM Code 93).
use Rattle.std.specs.Prelude.{ℕ, true, ◌+◌, ◌%◌, ◌==◌, List, [], ◌∷◌, ◌++◌, position, slice_index_or, option_to_list, option_map, Option, Some, None, Result, Ok}
use Rattle.std.specs.List.{flat_map}
use Rattle.bar_base.specs.Bits.{number_after}
use Rattle.bar_base.specs.CheckDigit.{weighted}
use Rattle.bar_base.specs.Stripes.{row_picture, stripes}
use Rattle.bar_base.specs.Results.{◌>>=◌}
use Rattle.bar_base.specs.Text.{values_of_text}
use Rattle.bar_base.specs.declared.linear.Linear.{Linear}
use Rattle.bar_base.specs.declared.linear.LinearFault.{LinearFault}
use Rattle.linear_codes.specs.declared.code93_table.TheConstants.{WIDTHS, START, SHIFTS}
use Rattle.linear_codes.specs.declared.code93_symbol.TheConstants.{CODE93_MOST_BYTES}
use Rattle.linear_codes.specs.Characters.{character_value}
use Rattle.linear_codes.specs.FullAscii.{full_ascii_sign, full_ascii_letter}

-- The widths of a character's bars and spaces, in turn.
unfoldable pub widths93 : (value : ℕ) → List ℕ
widths93 value = slice_index_or WIDTHS value []

-- A character's modules as a number.
unfoldable pub pattern93_of : (value : ℕ) → ℕ
pattern93_of value = number_after 0 (stripes true (widths93 value))

-- A symbol's widths: the start, the characters, the start again, and one bar of one module.
unfoldable pub symbol_widths93 : (values : List ℕ) → List ℕ
symbol_widths93 values = flat_map widths93 (START ∷ values ++ START ∷ []) ++ 1 ∷ []

-- From the right the weights are 1, 2 up to `most`, and again from 1.
abbrev pub weight_to : (most : ℕ) → (behind : ℕ) → ℕ
weight_to most behind = behind % most + 1

-- The sum of the values by these weights, modulo 47.
unfoldable pub weighted_check : (most : ℕ) → (values : List ℕ) → ℕ
weighted_check most values = weighted (weight_to most) values % 47

-- The check characters: C over the values, with weights to 20, and K over the values and C, with weights to 15.
abbrev pub check_c : (values : List ℕ) → ℕ
check_c values = weighted_check 20 values

-- The check character K, over the values and C, with weights to 15.
abbrev pub check_k : (values : List ℕ) → ℕ
check_k values = weighted_check 15 (values ++ check_c values ∷ [])

-- The two check characters of values, first C, then K.
unfoldable pub checks93 : (values : List ℕ) → List ℕ
checks93 values = check_c values ∷ check_k values ∷ []

-- They are drawn behind the values.
unfoldable pub symbol93 : (values : List ℕ) → Linear
symbol93 values = record { grid = row_picture (symbol_widths93 (values ++ checks93 values)); checks = checks93 values }

-- The shift characters ($), (%), (/) and (+) have the values 43 to 46.
unfoldable pub shift_of : (sign : ℕ) → Option ℕ
shift_of sign = option_map (λ place. 43 + place) (position (λ shift. shift == sign) SHIFTS)

-- A character is drawn as itself, every other byte of ASCII as a shift character and a letter.
unfoldable pub values_or_shifted : (value : Option ℕ) → (byte : ℕ) → List ℕ
values_or_shifted (Some value) byte = value ∷ []
values_or_shifted None byte = option_to_list (shift_of (full_ascii_sign byte)) ++ option_to_list (character_value (full_ascii_letter byte))

-- The values by which a byte is drawn: its own as a character, or those of a shift character and a letter.
unfoldable pub values93 : (byte : ℕ) → List ℕ
values93 byte = values_or_shifted (character_value byte) byte

-- A text of at most 107 bytes is drawn.
unfoldable pub code93_of : (text : List ℕ) → Result Linear LinearFault
code93_of text = do
  values ← values_of_text values93 CODE93_MOST_BYTES text
  Ok (symbol93 values)
