-- The four-state symbol of the Royal Mail (RM4SCC).
use Rattle.std.specs.Prelude.{ℕ, Bool, true, false, ◌+◌, ◌-◌, ◌*◌, ◌/◌, ◌%◌, ◌==◌, List, [], ◌∷◌, ◌++◌, length, map, replicate, sum, position, slice_index_or, option_to_list, Option, Result, Ok, if◌then◌else◌}
use Rattle.std.specs.Char.{to_ascii_uppercase}
use Rattle.std.specs.List.{flat_map}
use Rattle.bar_base.specs.Picture.{Picture}
use Rattle.bar_base.specs.Results.{◌>>=◌}
use Rattle.bar_base.specs.Text.{values_of_text}
use Rattle.bar_base.specs.declared.linear.Linear.{Linear}
use Rattle.bar_base.specs.declared.linear.LinearFault.{LinearFault}
use Rattle.four_state.specs.declared.characters.TheConstants.{CHARACTERS}
use Rattle.four_state.specs.declared.bars.TheConstants.{LONG_BARS}
use Rattle.four_state.specs.declared.symbol.TheConstants.{RM4SCC_MOST_BYTES}

-- The characters row by row, six in each row.
unfoldable pub four_state_characters : List ℕ
four_state_characters = CHARACTERS

-- The index of a character in the table, from 0.
unfoldable pub index_of : (byte : ℕ) → Option ℕ
index_of byte = position (λ character. character == byte) four_state_characters

-- A byte is drawn as its character, a lower-case letter as the upper-case one.
unfoldable pub indices_of : (byte : ℕ) → List ℕ
indices_of byte = option_to_list (index_of (to_ascii_uppercase byte))

-- A character's row in the table, counted from 1.
abbrev pub row : (index : ℕ) → ℕ
row index = index / 6 + 1

-- A character's column in the table, counted from 1.
abbrev pub column : (index : ℕ) → ℕ
column index = index % 6 + 1

-- The index of the character in a row and a column of the table.
abbrev pub table_index : (row column : ℕ) → ℕ
table_index row column = (row - 1) * 6 + (column - 1)

-- The check character's row is the sum of the rows modulo 6, 0 standing for 6, and its column that of the columns.
unfoldable pub check_number : (numbers : List ℕ) → ℕ
check_number numbers = if sum numbers % 6 == 0 then 6 else sum numbers % 6

-- The index of the check character: that in the check row and the check column of the characters.
unfoldable pub check_index : (indices : List ℕ) → ℕ
check_index indices = table_index (check_number (map row indices)) (check_number (map column indices))

-- Which of the four bars of a row or a column, 1 to 6, are long: two, whose weights 4, 2, 1, 0 sum to the number.
unfoldable pub long_bars : (number : ℕ) → List Bool
long_bars number = slice_index_or LONG_BARS (number - 1) []

-- Which bars are long: the start bar, the bars of each row or column and of their check, the stop bar, which is long.
unfoldable pub bars : (start : Bool) → (numbers : List ℕ) → List Bool
bars start numbers = start ∷ flat_map long_bars (numbers ++ check_number numbers ∷ []) ++ true ∷ []

-- The long bars of the rows have ascenders; the start bar has one.
abbrev pub ascenders : (indices : List ℕ) → List Bool
ascenders indices = bars true (map row indices)

-- Those of the columns have descenders; the start bar has none.
abbrev pub descenders : (indices : List ℕ) → List Bool
descenders indices = bars false (map column indices)

-- Bars stand in every second column, light modules between them.
unfoldable pub spaced : (bars : List Bool) → List Bool
spaced [] = []
spaced (first ∷ bars) = first ∷ flat_map (λ bar. false ∷ bar ∷ []) bars

-- The modules of three rows: ascenders, all bars, descenders.
abbrev pub rm4scc_modules : (ascenders descenders : List Bool) → List Bool
rm4scc_modules ascenders descenders = spaced ascenders ++ spaced (replicate (length ascenders) true) ++ spaced descenders

-- The rows have the heights 3, 2 and 3.
unfoldable pub rm4scc_picture : (ascenders descenders : List Bool) → Picture
rm4scc_picture ascenders descenders = record {
  width = 2 * length ascenders - 1;
  heights = 3 ∷ 2 ∷ 3 ∷ [];
  modules = rm4scc_modules ascenders descenders;
}

-- The symbol of the characters with these indices: the picture of its bars, and the index of the check character.
unfoldable pub rm4scc_symbol : (indices : List ℕ) → Linear
rm4scc_symbol indices = record { grid = rm4scc_picture (ascenders indices) (descenders indices); checks = check_index indices ∷ [] }

-- A text of at most 50 bytes is drawn.
unfoldable pub rm4scc_of : (text : List ℕ) → Result Linear LinearFault
rm4scc_of text = do
  indices ← values_of_text indices_of RM4SCC_MOST_BYTES text
  Ok (rm4scc_symbol indices)
