-- The code that stands at the front of bits, computed.
use Rattle.std.specs.Prelude.{ℕ, zero, suc, Bool, true, false, ◌&&◌, List, [], ◌∷◌, ◌+◌, ◌-◌, ◌*◌, ◌==◌, ◌≤◌, Option, Some, None, nat_lt, nat_le, take, drop, length, if◌then◌else◌}
use Rattle.bar_base.specs.Bits.{number_after}
use Rattle.bar_base.specs.declared.element.Element.{Element}
use Rattle.bar_base.specs.declared.element.Element.TheVariants as element
use Rattle.aztec_modes.specs.declared.mode.Mode.{Mode}
use Rattle.aztec_modes.specs.declared.code.Code.{Code}
use Rattle.aztec_modes.specs.declared.code.Code.TheVariants.{Latch, Plain, Shift, Fnc1, Eci, Run}
use Rattle.aztec_modes.specs.declared.table.Symbol.{Symbol}
use Rattle.aztec_modes.specs.declared.table.Symbol.TheVariants.{Absent, One, Two, LatchTo, ShiftTo, Binary, Flag}
use Rattle.aztec_modes.specs.Codes.{table_symbol, mode_width}
use Rattle.aztec_modes.specs.Entry.{bytes_as_elements, run_head}

-- The number that the first `count` bits write, where there are so many.
unfoldable pub number_ahead : (count : ℕ) (bits : List Bool) → Option ℕ
number_ahead count bits = if nat_lt (length bits) count then None else Some (number_after 0 (take count bits))

-- A number handed on, where there is one.
unfoldable pub onward_from : {X : Type 0} → Option ℕ → (ℕ → Option X) → Option X
onward_from None next = None
onward_from (Some number) next = next number

-- The digit of a code 2 to 11 of Digit mode.
unfoldable pub code_digit : ℕ → Option ℕ
code_digit number = if nat_lt number 2 then None else if nat_lt 11 number then None else Some (number - 2)

-- The first four bits as a digit.
unfoldable pub digit_ahead : (bits : List Bool) → Option ℕ
digit_ahead bits = onward_from (number_ahead 4 bits) code_digit

-- The digits of an ECI, after a number that the digits in front of them have made.
unfoldable pub digits_ahead : (count front : ℕ) (bits : List Bool) → Option ℕ
digits_ahead zero front bits = Some front
digits_ahead (suc count) front bits = onward_from (digit_ahead bits) (λ digit. digits_ahead count (front * 10 + digit) (drop 4 bits))

-- FLG(n), from n on.
unfoldable pub flag_by : (n : ℕ) (bits : List Bool) → Option Code
flag_by n bits =
    if n == 0 then Some Fnc1
    else if n == 7 then None
    else onward_from (digits_ahead n 0 bits) (λ number. Some (Eci number n))

-- FLG(n), from the three bits of n on.
unfoldable pub flag_ahead : (bits : List Bool) → Option Code
flag_ahead bits = onward_from (number_ahead 3 bits) (λ n. flag_by n (drop 3 bits))

-- A run of so many bytes, where they are there.
unfoldable pub run_by : (count : ℕ) (long : Bool) (bits : List Bool) → Option Code
run_by count long bits = if nat_lt (length bits) (8 * count) then None else Some (Run count long)

-- A run whose length has the long form, from the 11 bits on that write the length less 31.
unfoldable pub long_ahead : (bits : List Bool) → Option Code
long_ahead bits = onward_from (number_ahead 11 bits) (λ n. run_by (n + 31) true (drop 11 bits))

-- A run, from its length on.
unfoldable pub run_ahead : (bits : List Bool) → Option Code
run_ahead bits = onward_from (number_ahead 5 bits) (λ n. if n == 0 then long_ahead (drop 5 bits) else run_by n false (drop 5 bits))

-- The code after a shift, from its number on.
unfoldable pub second_by : (to : Mode) (number : ℕ) (bits : List Bool) → Symbol → Option Code
second_by to number bits (One byte) = Some (Shift to number)
second_by to number bits (Two first second) = Some (Shift to number)
second_by to number bits Flag = flag_ahead bits
second_by to number bits Absent = None
second_by to number bits (LatchTo mode) = None
second_by to number bits (ShiftTo mode) = None
second_by to number bits Binary = None

-- The code after a shift to a mode, from the bits of its number on.
unfoldable pub second_ahead : (to : Mode) (bits : List Bool) → Option Code
second_ahead to bits = onward_from (number_ahead (mode_width to) bits) (λ number. second_by to number (drop (mode_width to) bits) (table_symbol to number))

-- The code of a number, and of what follows it.
unfoldable pub first_by : (number : ℕ) (bits : List Bool) → Symbol → Option Code
first_by number bits (One byte) = Some (Plain number)
first_by number bits (Two first second) = Some (Plain number)
first_by number bits (LatchTo to) = Some (Latch to)
first_by number bits (ShiftTo to) = second_ahead to bits
first_by number bits Binary = run_ahead bits
first_by number bits Flag = flag_ahead bits
first_by number bits Absent = None

-- The code that stands at the front of bits, where one does.
unfoldable pub code_ahead : (mode : Mode) (bits : List Bool) → Option Code
code_ahead mode bits = onward_from (number_ahead (mode_width mode) bits) (λ number. first_by number (drop (mode_width mode) bits) (table_symbol mode number))

-- The bytes that bits write, 8 bits each.
unfoldable pub bytes_in : (count : ℕ) (bits : List Bool) → List ℕ
bytes_in zero bits = []
bytes_in (suc count) bits = number_after 0 (take 8 bits) ∷ bytes_in count (drop 8 bits)

-- What a data code spells.
unfoldable pub data_elements : Symbol → List Element
data_elements (One byte) = element.Byte byte ∷ []
data_elements (Two first second) = element.Byte first ∷ element.Byte second ∷ []
data_elements Absent = []
data_elements (LatchTo mode) = []
data_elements (ShiftTo mode) = []
data_elements Binary = []
data_elements Flag = []

-- What a code spells that stands at the front of bits.
unfoldable pub spelled_ahead : Mode → Code → List Bool → List Element
spelled_ahead mode (Latch to) bits = []
spelled_ahead mode (Plain number) bits = data_elements (table_symbol mode number)
spelled_ahead mode (Shift to number) bits = data_elements (table_symbol to number)
spelled_ahead mode Fnc1 bits = element.Fnc1 ∷ []
spelled_ahead mode (Eci number count) bits = element.Eci number ∷ []
spelled_ahead mode (Run count long) bits = bytes_as_elements (bytes_in count (drop (run_head long) bits))
