-- One code as an entry, and its parts: whether a mode has the code, what it spells, how many elements that is, its bits, how many they
-- are, and the mode after it (ISO/IEC 24778, Character encodation: latches, shifts, FLG(n), binary shift).
use Rattle.std.specs.Prelude.{◌≡◌, ℕ, zero, suc, Bool, true, false, List, [], ◌∷◌, ◌++◌, ◌+◌, ◌-◌, ◌*◌, ◌/◌, ◌%◌, ◌^◌, ◌<◌, ◌≤◌, ◌==◌, Some, All, length, position, unwrap_or, if◌then◌else◌}
use Rattle.bar_base.specs.Bits.{to_bits}
use Rattle.bar_base.specs.declared.element.Element.{Element}
use Rattle.bar_base.specs.declared.element.Element.TheVariants as element
use Rattle.aztec_modes.specs.declared.mode.Mode.{Mode}
use Rattle.aztec_modes.specs.declared.mode.Mode.TheVariants.{Upper, Lower, Mixed, Punct, Digit}
use Rattle.aztec_modes.specs.declared.code.Code.{Code}
use Rattle.aztec_modes.specs.declared.code.Code.TheVariants.{Latch, Plain, Shift, Fnc1, Eci, Run}
use Rattle.aztec_modes.specs.declared.table.Symbol.{Symbol}
use Rattle.aztec_modes.specs.declared.table.Symbol.TheVariants.{Absent, One, Two, LatchTo, ShiftTo, Binary, Flag}
use Rattle.aztec_modes.specs.Codes.{code_table, table_symbol, number_bits, mode_width, data_spelled}

-- The modes, numbered in the order of the tables.
unfoldable pub mode_number : Mode → ℕ
mode_number Upper = 0
mode_number Lower = 1
mode_number Mixed = 2
mode_number Punct = 3
mode_number Digit = 4

-- Whether a symbol is the latch to a mode.
unfoldable pub is_latch : Mode → Symbol → Bool
is_latch to Absent = false
is_latch to (One byte) = false
is_latch to (Two first second) = false
is_latch to (LatchTo mode) = mode_number to == mode_number mode
is_latch to (ShiftTo mode) = false
is_latch to Binary = false
is_latch to Flag = false

-- Whether a symbol is the shift to a mode.
unfoldable pub is_shift : Mode → Symbol → Bool
is_shift to Absent = false
is_shift to (One byte) = false
is_shift to (Two first second) = false
is_shift to (LatchTo mode) = false
is_shift to (ShiftTo mode) = mode_number to == mode_number mode
is_shift to Binary = false
is_shift to Flag = false

-- The number of the latch to a mode, where the table has it.
unfoldable pub latch_number : (mode to : Mode) → ℕ
latch_number mode to = unwrap_or (position (is_latch to) (code_table mode)) 0

-- The number of the shift to a mode, where the table has it.
unfoldable pub shift_number : (mode to : Mode) → ℕ
shift_number mode to = unwrap_or (position (is_shift to) (code_table mode)) 0

-- FLG(n) can be written in a mode: it is code 0 of Punct, and every other mode has the shift to Punct as its code 0.
abbrev pub HasFlag : Mode → Type 0
HasFlag Punct = table_symbol Punct 0 ≡ Flag
HasFlag mode = (table_symbol mode 0 ≡ ShiftTo Punct) × (table_symbol Punct 0 ≡ Flag)

-- A mode has a code: the table has its latch, its shift, or B/S as code 31; an ECI has 1 to 6 digits; a run has 1 to 31 bytes in the
-- short form, 31 to 2,078 in the long one. That a data code is one is said by what it spells.
abbrev pub HasCode : Mode → Code → Type 0
HasCode mode (Latch next) = table_symbol mode (latch_number mode next) ≡ LatchTo next
HasCode mode (Plain number) = Unit {0}
HasCode mode (Shift to number) = table_symbol mode (shift_number mode to) ≡ ShiftTo to
HasCode mode Fnc1 = HasFlag mode
HasCode mode (Eci number count) = HasFlag mode × (1 ≤ count) × (count ≤ 6) × (number < 10 ^ count)
HasCode mode (Run count false) = (table_symbol mode 31 ≡ Binary) × (1 ≤ count) × (count ≤ 31)
HasCode mode (Run count true) = (table_symbol mode 31 ≡ Binary) × (31 ≤ count) × (count ≤ 2078)

-- Bytes as elements of a message.
unfoldable pub bytes_as_elements : List ℕ → List Element
bytes_as_elements [] = []
bytes_as_elements (byte ∷ bytes) = element.Byte byte ∷ bytes_as_elements bytes

-- What a code spells: a latch nothing, a data code its bytes, FLG(0) FNC1, FLG(1) to FLG(6) an ECI, a run as many bytes as it counts.
abbrev pub CodeSpells : Mode → Code → List Element → Type 0
CodeSpells mode (Latch next) spelled = spelled ≡ []
CodeSpells mode (Plain number) spelled = data_spelled (table_symbol mode number) ≡ Some spelled
CodeSpells mode (Shift to number) spelled = data_spelled (table_symbol to number) ≡ Some spelled
CodeSpells mode Fnc1 spelled = spelled ≡ element.Fnc1 ∷ []
CodeSpells mode (Eci number count) spelled = spelled ≡ element.Eci number ∷ []
CodeSpells mode (Run count long) spelled =
    (bytes : List ℕ) × (spelled ≡ bytes_as_elements bytes) × (length bytes ≡ count) × All (λ byte. byte < 256) bytes

-- How many bytes a data code spells.
unfoldable pub data_count : Symbol → ℕ
data_count (Two first second) = 2
data_count symbol = 1

-- How many elements a code spells.
unfoldable pub code_count : Mode → Code → ℕ
code_count mode (Latch next) = 0
code_count mode (Plain number) = data_count (table_symbol mode number)
code_count mode (Shift to number) = data_count (table_symbol to number)
code_count mode Fnc1 = 1
code_count mode (Eci number count) = 1
code_count mode (Run count long) = count

-- FLG(n): code 0 of Punct and three bits of n, after P/S, code 0 of each other mode.
unfoldable pub flag_bits : (mode : Mode) (n : ℕ) → List Bool
flag_bits Punct n = number_bits Punct 0 ++ to_bits 3 n
flag_bits Upper n = number_bits Upper 0 ++ (number_bits Punct 0 ++ to_bits 3 n)
flag_bits Lower n = number_bits Lower 0 ++ (number_bits Punct 0 ++ to_bits 3 n)
flag_bits Mixed n = number_bits Mixed 0 ++ (number_bits Punct 0 ++ to_bits 3 n)
flag_bits Digit n = number_bits Digit 0 ++ (number_bits Punct 0 ++ to_bits 3 n)

-- The last `count` decimal digits of a number, the highest first: a digit d is the code d + 2 of Digit mode.
unfoldable pub digit_bits : (count number : ℕ) → List Bool
digit_bits zero number = []
digit_bits (suc count) number = digit_bits count (number / 10) ++ number_bits Digit (number % 10 + 2)

-- The length of a run: its count of bytes in 5 bits, or 5 bits of 0 and the count less 31 in 11 bits.
unfoldable pub length_bits : (count : ℕ) (long : Bool) → List Bool
length_bits count true = to_bits 5 0 ++ to_bits 11 (count - 31)
length_bits count false = to_bits 5 count

-- The byte of an element, 0 where it is none.
unfoldable pub element_byte : Element → ℕ
element_byte (element.Byte byte) = byte
element_byte (element.Eci number) = 0
element_byte element.Fnc1 = 0

-- The bytes of elements, 8 bits each, the highest first.
unfoldable pub element_bits : List Element → List Bool
element_bits [] = []
element_bits (first ∷ elements) = to_bits 8 (element_byte first) ++ element_bits elements

-- The bits of a code in a mode that spells these elements.
unfoldable pub code_bits : Mode → Code → List Element → List Bool
code_bits mode (Latch to) spelled = number_bits mode (latch_number mode to)
code_bits mode (Plain number) spelled = number_bits mode number
code_bits mode (Shift to number) spelled = number_bits mode (shift_number mode to) ++ number_bits to number
code_bits mode Fnc1 spelled = flag_bits mode 0
code_bits mode (Eci number count) spelled = flag_bits mode count ++ digit_bits count number
code_bits mode (Run count long) spelled = number_bits mode 31 ++ (length_bits count long ++ element_bits spelled)

-- How many bits FLG(n) has, with the shift that it needs outside Punct.
unfoldable pub flag_width : Mode → ℕ
flag_width Punct = 8
flag_width mode = mode_width mode + 8

-- How many bits B/S and the length of a run have.
abbrev pub run_head : (long : Bool) → ℕ
run_head long = if long then 21 else 10

-- How many bits a code has.
unfoldable pub code_length : Mode → Code → ℕ
code_length mode (Latch next) = mode_width mode
code_length mode (Plain number) = mode_width mode
code_length mode (Shift to number) = mode_width mode + mode_width to
code_length mode Fnc1 = flag_width mode
code_length mode (Eci number count) = flag_width mode + 4 * count
code_length mode (Run count long) = run_head long + 8 * count

-- The mode after a code: a latch changes it, every other code keeps it.
unfoldable pub code_next : Mode → Code → Mode
code_next mode (Latch next) = next
code_next mode (Plain number) = mode
code_next mode (Shift to number) = mode
code_next mode Fnc1 = mode
code_next mode (Eci number count) = mode
code_next mode (Run count long) = mode

-- `Entry mode code bits spelled next`: in `mode` the code has these bits, spells these elements, and `next` is the mode after it.
pub record Entry (mode : Mode) (code : Code) (bits : List Bool) (spelled : List Element) (next : Mode) : Type 0 where
  pub has : HasCode mode code
  pub spells : CodeSpells mode code spelled
  pub written : bits ≡ code_bits mode code spelled
  pub leads : next ≡ code_next mode code

-- A code that is an entry of the mode, and what it spells begins the elements.
pub record SpellsFront (mode : Mode) (code : Code) (elements : List Element) : Type 0 where
  pub bits : List Bool
  pub spelled : List Element
  pub rest : List Element
  pub next : Mode
  pub entry : Entry mode code bits spelled next
  pub splits : elements ≡ spelled ++ rest
