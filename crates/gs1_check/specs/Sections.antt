-- Sections of a text: what is behind an opening bracket, up to the next one or the end. A section is an identifier, a
-- closing bracket and a value.
use Rattle.std.specs.Prelude.{ℕ, ◌+◌, ◌-◌, ◌==◌, ◌&&◌, ◌||◌, not, Bool, List, [], ◌∷◌, length, map, take, drop, nat_le, Option, Some, None, if◌then◌else◌, option_map, slice_index, slice_index_or}
use Rattle.std.specs.Option.{option_or}
use Rattle.std.specs.Char.{is_ascii_digit, is_ascii_alphanumeric}
use Rattle.std.specs.List.{position, position_or_len, list_any}
use Rattle.bar_base.specs.CheckDigit.{check_digit, digit_value}
use Rattle.gs1_check.specs.Identifiers.{identifier_format, two_digits}
use Rattle.gs1_check.specs.declared.brackets.Brackets.{Brackets}
use Rattle.gs1_check.specs.declared.brackets.Brackets.TheVariants.{Square, Round}
use Rattle.gs1_check.specs.declared.fault.Gs1Fault.{Gs1Fault}
use Rattle.gs1_check.specs.declared.fault.Gs1Fault.TheVariants.{BadBracket, UnknownIdentifier, BadLength, BadCharacter, BadDate, BadCheck}
use Rattle.gs1_check.specs.declared.identifiers.Format.{Format}
use Rattle.gs1_check.specs.declared.identifiers.Rule.{Rule}
use Rattle.gs1_check.specs.declared.identifiers.Rule.TheVariants as rule

-- The opening bracket: [ or (.
abbrev pub opening_bracket : Brackets → ℕ
opening_bracket Square = 91
opening_bracket Round = 40

-- The closing bracket: ] or ).
abbrev pub closing_bracket : Brackets → ℕ
closing_bracket Square = 93
closing_bracket Round = 41

-- The signs of character set 82 (GS1 General Specifications): ! " % & ' ( ) * + , - . / : ; < = > ? _
abbrev pub signs : List ℕ
signs = 33 ∷ 34 ∷ 37 ∷ 38 ∷ 39 ∷ 40 ∷ 41 ∷ 42 ∷ 43 ∷ 44 ∷ 45 ∷ 46 ∷ 47 ∷ 58 ∷ 59 ∷ 60 ∷ 61 ∷ 62 ∷ 63 ∷ 95 ∷ []

-- Character set 82: the letters of both cases, the digits and the signs.
unfoldable pub is_in_set_82 : ℕ → Bool
is_in_set_82 byte = is_ascii_alphanumeric byte || list_any (λ sign. sign == byte) signs

-- A byte that no value has: one outside character set 82, or one of the brackets in use.
unfoldable pub is_outside : Brackets → ℕ → Bool
is_outside brackets byte =
    not (is_in_set_82 byte) || (byte == opening_bracket brackets) || (byte == closing_bracket brackets)

-- A byte that is no digit 0 to 9.
abbrev pub is_no_digit : ℕ → Bool
is_no_digit byte = not (is_ascii_digit byte)

-- The tests of a value whose first byte is at the place `at`, in their order: its characters, its length, its digits,
-- its date or check digit.
abbrev pub character_fault_at : ℕ → Option ℕ → Option Gs1Fault
character_fault_at at place = option_map (λ k. BadCharacter (at + k)) place

-- The fault of a value with a byte that no value has, at the first such byte.
abbrev pub character_fault : Brackets → ℕ → List ℕ → Option Gs1Fault
character_fault brackets at value = character_fault_at at (position (is_outside brackets) value)

-- A value is as long as its format asks: from the least to the most number of bytes.
abbrev pub length_fits : Format → List ℕ → Bool
length_fits format value = nat_le format.least (length value) && nat_le (length value) format.most

-- The fault of a value of another length than its format asks, at its first byte.
abbrev pub length_fault : ℕ → Format → List ℕ → Option Gs1Fault
length_fault at format value = if length_fits format value then None else Some (BadLength at)

-- The fault of a value with another byte than a digit in its numeric part, at the first such byte.
abbrev pub numeric_fault : ℕ → Format → List ℕ → Option Gs1Fault
numeric_fault at format value = character_fault_at at (position is_no_digit (take format.digits value))

-- A date YYMMDD: month 01 to 12, day 00 to 31.
abbrev pub is_date : List ℕ → Bool
is_date value = nat_le 1 (two_digits value 2) && nat_le (two_digits value 2) 12 && nat_le (two_digits value 4) 31

-- The fault of a value that is no date, at its first byte.
abbrev pub date_fault : ℕ → List ℕ → Option Gs1Fault
date_fault at value = if is_date value then None else Some (BadDate at)

-- The check digit is the last of the numeric part.
abbrev pub given_digit : Format → List ℕ → ℕ
given_digit format value = digit_value (slice_index value (format.digits - 1))

-- The check digit of the digits in front of it.
abbrev pub wanted_digit : Format → List ℕ → ℕ
wanted_digit format value = check_digit (map digit_value (take (format.digits - 1) value))

-- The fault of a value whose check digit is another than the wanted one, at that digit, with the given and the wanted one.
abbrev pub check_fault : ℕ → Format → List ℕ → Option Gs1Fault
check_fault at format value = if given_digit format value == wanted_digit format value then None
    else Some (BadCheck (at + (format.digits - 1)) (given_digit format value) (wanted_digit format value))

-- The fault of a value by the rule of its format: none, that of a date, or that of a check digit.
abbrev pub rule_fault : ℕ → Format → List ℕ → Rule → Option Gs1Fault
rule_fault at format value rule.Plain = None
rule_fault at format value rule.Date = date_fault at value
rule_fault at format value rule.Check = check_fault at format value

-- The first fault of a value.
unfoldable pub value_fault : Brackets → ℕ → Format → List ℕ → Option Gs1Fault
value_fault brackets at format value = option_or (character_fault brackets at value)
    (option_or (length_fault at format value)
    (option_or (numeric_fault at format value) (rule_fault at format value format.rule)))

-- The first fault of a section behind the opening bracket at the place `at`, whose first `size` bytes are the digits
-- of its identifier.
abbrev pub identified_fault : Brackets → ℕ → Option Format → ℕ → List ℕ → Option Gs1Fault
identified_fault brackets at None size value = Some (UnknownIdentifier (at + 1))
identified_fault brackets at (Some format) size value = value_fault brackets (at + 2 + size) format value

-- The same with the closing bracket, which must stand behind those digits.
unfoldable pub sized_fault : Brackets → ℕ → List ℕ → ℕ → Option Gs1Fault
sized_fault brackets at section size = if slice_index_or section size 0 == closing_bracket brackets
    then identified_fault brackets at (identifier_format (take size section)) size (drop (size + 1) section)
    else Some (BadBracket (at + 1 + size))

-- The first fault of a section behind the opening bracket at the place `at`; its identifier ends before the first byte that is no digit.
unfoldable pub section_fault : Brackets → ℕ → List ℕ → Option Gs1Fault
section_fault brackets at section = sized_fault brackets at section (position_or_len is_no_digit section)
