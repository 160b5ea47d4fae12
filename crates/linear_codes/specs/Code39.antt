-- Code 39 (ISO/IEC 16388).
use Rattle.std.specs.Prelude.{ℕ, Bool, ◌%◌, List, [], ◌∷◌, ◌++◌, sum, slice_index_or, option_to_list, Result, Ok, true, if◌then◌else◌}
use Rattle.std.specs.Char.{to_ascii_uppercase}
use Rattle.std.specs.List.{flat_map}
use Rattle.bar_base.specs.Bits.{number_after}
use Rattle.bar_base.specs.Stripes.{row_picture, stripes}
use Rattle.bar_base.specs.Results.{◌>>=◌}
use Rattle.bar_base.specs.Text.{values_of_text}
use Rattle.bar_base.specs.declared.linear.Linear.{Linear}
use Rattle.bar_base.specs.declared.linear.LinearFault.{LinearFault}
use Rattle.linear_codes.specs.declared.code39_table.TheConstants.{WIDTHS, STAR}
use Rattle.linear_codes.specs.declared.code39_symbol.TheConstants.{CODE39_MOST_BYTES}
use Rattle.linear_codes.specs.Characters.{character_value}
use Rattle.linear_codes.specs.FullAscii.{full_ascii_sign, full_ascii_letter, is_own}

-- The widths of a character's bars and spaces, in turn.
unfoldable pub widths39 : (value : ℕ) → List ℕ
widths39 value = slice_index_or WIDTHS value []

-- A character's modules as a number.
unfoldable pub pattern39_of : (value : ℕ) → ℕ
pattern39_of value = number_after 0 (stripes true (widths39 value))

-- A symbol's widths: `*`, the characters, `*`, and a narrow space between every two.
unfoldable pub symbol_widths39 : (values : List ℕ) → List ℕ
symbol_widths39 values = widths39 STAR ++ flat_map (λ value. 1 ∷ widths39 value) (values ++ STAR ∷ [])

-- The check character is the sum of the values, modulo 43.
unfoldable pub check39 : (values : List ℕ) → ℕ
check39 values = sum values % 43

-- It is drawn behind the values where it is asked for.
unfoldable pub checks39 : (values : List ℕ) → (check : Bool) → List ℕ
checks39 values check = if check then check39 values ∷ [] else []

-- The symbol of values and of the check characters behind them.
unfoldable pub symbol39 : (values checks : List ℕ) → Linear
symbol39 values checks = record { grid = row_picture (symbol_widths39 (values ++ checks)); checks = checks }

-- A byte is drawn as its character, a lower-case letter as the upper-case one.
unfoldable pub values39 : (byte : ℕ) → List ℕ
values39 byte = option_to_list (character_value (to_ascii_uppercase byte))

-- A text of at most 85 bytes is drawn.
unfoldable pub code39_of : (text : List ℕ) → (check : Bool) → Result Linear LinearFault
code39_of text check = do
  values ← values_of_text values39 CODE39_MOST_BYTES text
  Ok (symbol39 values (checks39 values check))

-- In full ASCII a byte is drawn as its own character, or as a sign and a letter.
unfoldable pub values39_full : (byte : ℕ) → List ℕ
values39_full byte =
    if is_own byte then option_to_list (character_value byte) else option_to_list (character_value (full_ascii_sign byte)) ++ option_to_list (character_value (full_ascii_letter byte))

-- A text of at most 85 bytes is drawn, without check character.
unfoldable pub code39_full_of : (text : List ℕ) → Result Linear LinearFault
code39_full_of text = do
  values ← values_of_text values39_full CODE39_MOST_BYTES text
  Ok (symbol39 values [])
