-- The code tables, and the bits of one number of a table (ISO/IEC 24778, Character encodation).
use Rattle.std.specs.Prelude.{ℕ, Bool, List, [], ◌∷◌, Option, Some, None, slice_index_or}
use Rattle.bar_base.specs.Bits.{to_bits}
use Rattle.bar_base.specs.declared.element.Element.{Element}
use Rattle.bar_base.specs.declared.element.Element.TheVariants.{Byte}
use Rattle.aztec_modes.specs.declared.mode.Mode.{Mode}
use Rattle.aztec_modes.specs.declared.mode.Mode.TheVariants.{Upper, Lower, Mixed, Punct, Digit}
use Rattle.aztec_modes.specs.declared.table.Symbol.{Symbol}
use Rattle.aztec_modes.specs.declared.table.Symbol.TheVariants.{Absent, One, Two, LatchTo, ShiftTo, Binary, Flag}
use Rattle.aztec_modes.specs.declared.table.TheConstants.{UPPER, LOWER, MIXED, PUNCT, DIGIT}

-- The code table of a mode.
unfoldable pub code_table : Mode → List Symbol
code_table Upper = UPPER
code_table Lower = LOWER
code_table Mixed = MIXED
code_table Punct = PUNCT
code_table Digit = DIGIT

-- What a number stands for in a mode.
unfoldable pub table_symbol : (mode : Mode) (number : ℕ) → Symbol
table_symbol mode number = slice_index_or (code_table mode) number Absent

-- Codes have 5 bits, those of Digit mode 4.
unfoldable pub mode_width : Mode → ℕ
mode_width Upper = 5
mode_width Lower = 5
mode_width Mixed = 5
mode_width Punct = 5
mode_width Digit = 4

-- The bits of a number of the table, the highest first.
unfoldable pub number_bits : (mode : Mode) (number : ℕ) → List Bool
number_bits mode number = to_bits (mode_width mode) number

-- What a data code spells: one byte, or the two bytes of a pair. No other code is a data code.
unfoldable pub data_spelled : Symbol → Option (List Element)
data_spelled (One byte) = Some (Byte byte ∷ [])
data_spelled (Two first second) = Some (Byte first ∷ Byte second ∷ [])
data_spelled Absent = None
data_spelled (LatchTo mode) = None
data_spelled (ShiftTo mode) = None
data_spelled Binary = None
data_spelled Flag = None
