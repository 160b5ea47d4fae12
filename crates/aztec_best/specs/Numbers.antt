-- The number of a byte's data code in a mode, and the cheapest data codes.
use Rattle.std.specs.Prelude.{ℕ, Bool, false, List, ◌+◌, ◌*◌, ◌&&◌, ◌||◌, ◌==◌, Option, Some, None, nat_lt, not, slice_index_or, if◌then◌else◌}
use Rattle.bar_base.specs.declared.element.Element.{Element}
use Rattle.bar_base.specs.declared.element.Element.TheVariants as element
use Rattle.aztec_modes.specs.declared.mode.Mode.{Mode}
use Rattle.aztec_modes.specs.declared.mode.Mode.TheVariants.{Upper, Lower, Mixed, Punct, Digit}
use Rattle.aztec_modes.specs.Codes.{mode_width}
use Rattle.aztec_modes.specs.Entry.{flag_width}
use Rattle.aztec_best.specs.declared.numbers.TheConstants.{UPPER_NUMBERS, LOWER_NUMBERS, MIXED_NUMBERS, PUNCT_NUMBERS, DIGIT_NUMBERS}

-- The numbers of the bytes below 128 in a mode.
unfoldable pub numbers_of : Mode → List ℕ
numbers_of Upper = UPPER_NUMBERS
numbers_of Lower = LOWER_NUMBERS
numbers_of Mixed = MIXED_NUMBERS
numbers_of Punct = PUNCT_NUMBERS
numbers_of Digit = DIGIT_NUMBERS

-- The number of a byte's data code in a mode, 0 where it has none.
unfoldable pub data_number : Mode → (byte : ℕ) → ℕ
data_number mode byte = slice_index_or (numbers_of mode) byte 0

-- The bits of a data code of Punct, with the shift that it needs outside Punct.
unfoldable pub punct_length : Mode → ℕ
punct_length Upper = 10
punct_length Lower = 10
punct_length Mixed = 10
punct_length Punct = 5
punct_length Digit = 9

-- The bits of a shift to Upper and a data code, where the mode has that shift.
unfoldable pub capital_length : Mode → ℕ
capital_length Upper = 1073741824
capital_length Lower = 10
capital_length Mixed = 1073741824
capital_length Punct = 1073741824
capital_length Digit = 9

-- The fewest bits of a data code, or of a shift and one, that spells a byte alone; 2 to the power 30 where there is none.
unfoldable pub byte_length : Mode → (byte : ℕ) → ℕ
byte_length mode byte =
    if not (data_number mode byte == 0) then mode_width mode
    else if not (data_number Punct byte == 0) then punct_length mode
    else if not (data_number Upper byte == 0) then capital_length mode
    else 1073741824

-- The fewest digits of an ECI below a million.
unfoldable pub fewest_digits : (number : ℕ) → ℕ
fewest_digits number = if nat_lt number 10 then 1 else if nat_lt number 100 then 2 else if nat_lt number 1000 then 3
    else if nat_lt number 10000 then 4 else if nat_lt number 100000 then 5 else 6

-- The fewest bits of a code other than a run that spells an element alone.
unfoldable pub single_length : Mode → Option Element → ℕ
single_length mode None = 1073741824
single_length mode (Some (element.Byte byte)) = byte_length mode byte
single_length mode (Some (element.Eci number)) = flag_width mode + 4 * fewest_digits number
single_length mode (Some element.Fnc1) = flag_width mode

-- Whether one code of Punct spells two bytes.
unfoldable pub is_pair : (first second : ℕ) → Bool
is_pair first second = ((first == 13) && (second == 10)) || (((first == 46) || ((first == 44) || (first == 58))) && (second == 32))

-- Whether two elements are such bytes.
unfoldable pub has_pair : Option Element → Option Element → Bool
has_pair None second = false
has_pair (Some (element.Eci number)) second = false
has_pair (Some element.Fnc1) second = false
has_pair (Some (element.Byte first)) None = false
has_pair (Some (element.Byte first)) (Some (element.Eci number)) = false
has_pair (Some (element.Byte first)) (Some element.Fnc1) = false
has_pair (Some (element.Byte first)) (Some (element.Byte second)) = is_pair first second

-- The number of the data code for an element alone, 0 where it has none.
unfoldable pub own_number : Mode → Option Element → ℕ
own_number mode None = 0
own_number mode (Some (element.Byte byte)) = data_number mode byte
own_number mode (Some (element.Eci number)) = 0
own_number mode (Some element.Fnc1) = 0

-- The number of the code of Punct for two bytes, by the first of them.
unfoldable pub pair_of : (byte : ℕ) → ℕ
pair_of byte = if byte == 13 then 2 else if byte == 46 then 3 else if byte == 44 then 4 else 5

-- The same by an element, 0 where it is no byte.
unfoldable pub pair_from : Option Element → ℕ
pair_from None = 0
pair_from (Some (element.Byte byte)) = pair_of byte
pair_from (Some (element.Eci number)) = 0
pair_from (Some element.Fnc1) = 0

-- The number of the data code for two elements, 0 where they have none.
unfoldable pub pair_number : Mode → Option Element → Option Element → ℕ
pair_number Upper first second = 0
pair_number Lower first second = 0
pair_number Mixed first second = 0
pair_number Punct first second = if has_pair first second then pair_from first else 0
pair_number Digit first second = 0

-- The number from which on the codes of a mode are latches, shifts and B/S: behind its data codes.
unfoldable pub controls_from : Mode → ℕ
controls_from Upper = 28
controls_from Lower = 28
controls_from Mixed = 28
controls_from Punct = 31
controls_from Digit = 14
