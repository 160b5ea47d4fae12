-- What the values of a row spell (ISO/IEC 15417; ISO/IEC 16388, full ASCII character set; AIM Code 93; ISO/IEC 16390).
use Rattle.std.specs.Prelude.{ℕ, Bool, false, ◌&&◌, ◌+◌, ◌==◌, List, [], ◌∷◌, ◌++◌, length, map, slice_index, Option, Some, None, Result, Ok, Err, if◌then◌else◌}
use Rattle.bar_base.specs.Results.{◌>>=◌}
use Rattle.bar_base.specs.declared.element.Element.{Element}
use Rattle.bar_base.specs.declared.element.Element.TheVariants as element
use Rattle.code128_best.specs.declared.state.State.{State}
use Rattle.code128_best.specs.Spelling.{state_after_start}
use Rattle.code128_best.specs.Values.{act_of, is_free, spelled_elements}
use Rattle.linear_codes.specs.Characters.{characters}
use Rattle.linear_codes.specs.Code39.{values39_full}
use Rattle.linear_codes.specs.Code93.{values93}
use Rattle.linear_reader.specs.declared.symbology.RowSymbology.{RowSymbology}
use Rattle.linear_reader.specs.declared.symbology.RowSymbology.TheVariants.{Code39, Code39Full, Code93, Code128, Itf14}
use Rattle.linear_reader.specs.declared.scan.ScanFault.{ScanFault}
use Rattle.linear_reader.specs.declared.scan.ScanFault.TheVariants.{BadSpelling}
use Rattle.linear_reader.specs.Patterns.{first_from}
use Rattle.linear_reader.specs.Checks.{data_values}

-- Elements in front of others.
abbrev pub with_more : (front : List Element) → (more : Result (List Element) ScanFault) → Result (List Element) ScanFault
with_more front more = do
  elements ← more
  Ok (front ++ elements)

-- What the values of Code 128 spell from a state on; the first has a place. Refused is the first that may not stand, or the end where
-- something is pending.
unfoldable pub spelled_from : (place : ℕ) → State → (values : List ℕ) → Result (List Element) ScanFault
spelled_from place state [] = if is_free state then Ok [] else Err (BadSpelling place)
spelled_from place state (value ∷ values) = elim (act_of state value) as (λ _. Result (List Element) ScanFault) [
  | None ↦ Err (BadSpelling place)
  | Some effect ↦ with_more (spelled_elements effect.spelled) (spelled_from (place + 1) effect.next values)
]

-- What follows from the state after a start value.
abbrev pub on_state : Option State → (State → Result (List Element) ScanFault) → Result (List Element) ScanFault
on_state None next = Err (BadSpelling 0)
on_state (Some state) next = next state

-- What a start value and the values after it spell.
unfoldable pub spelled128 : (values : List ℕ) → Result (List Element) ScanFault
spelled128 [] = Err (BadSpelling 0)
spelled128 (start ∷ values) = on_state (state_after_start start) (λ state. spelled_from 1 state values)

-- Whether a byte is drawn by this value alone.
unfoldable pub is_drawn_alone : (drawn : List ℕ) → (value : ℕ) → Bool
is_drawn_alone drawn value = if length drawn == 1 then slice_index drawn 0 == value else false

-- Whether a byte is drawn by this sign and this value behind it.
unfoldable pub is_drawn_by_pair : (drawn : List ℕ) → (sign value : ℕ) → Bool
is_drawn_by_pair drawn sign value = if length drawn == 2 then slice_index drawn 0 == sign && slice_index drawn 1 == value else false

-- The values by which full ASCII draws a byte in Code 93, and in extended Code 39.
unfoldable pub drawn_values : RowSymbology → (byte : ℕ) → List ℕ
drawn_values Code39 byte = values39_full byte
drawn_values Code39Full byte = values39_full byte
drawn_values Code93 byte = values93 byte
drawn_values Code128 byte = []
drawn_values Itf14 byte = []

-- The byte that a value alone draws.
unfoldable pub byte_alone : RowSymbology → (value : ℕ) → Option ℕ
byte_alone symbology value = first_from (λ byte. is_drawn_alone (drawn_values symbology byte) value) 128 0

-- The byte that a sign and a value draw.
unfoldable pub byte_of_pair : RowSymbology → (sign value : ℕ) → Option ℕ
byte_of_pair symbology sign value = first_from (λ byte. is_drawn_by_pair (drawn_values symbology byte) sign value) 128 0

-- The bytes that values draw, the first of them at a place, perhaps behind a sign that begins a pair. Refused is a value that makes no
-- pair with the sign, or the end where it is awaited.
unfoldable pub bytes_from : RowSymbology → (place : ℕ) → (sign : Option ℕ) → (values : List ℕ) → Result (List Element) ScanFault
bytes_from symbology place None [] = Ok []
bytes_from symbology place (Some sign) [] = Err (BadSpelling place)
bytes_from symbology place None (value ∷ values) = elim (byte_alone symbology value) as (λ _. Result (List Element) ScanFault) [
  | None ↦ bytes_from symbology (place + 1) (Some value) values
  | Some byte ↦ with_more (element.Byte byte ∷ []) (bytes_from symbology (place + 1) None values)
]
bytes_from symbology place (Some sign) (value ∷ values) = elim (byte_of_pair symbology sign value) as (λ _. Result (List Element) ScanFault) [
  | None ↦ Err (BadSpelling place)
  | Some byte ↦ with_more (element.Byte byte ∷ []) (bytes_from symbology (place + 1) None values)
]

-- The character of a value of Code 39.
abbrev pub character_element : (value : ℕ) → Element
character_element value = element.Byte (slice_index characters value)

-- The character of a digit.
abbrev pub digit_element : (digit : ℕ) → Element
digit_element digit = element.Byte (48 + digit)

-- The elements of the values of a row: in ITF-14 all digits, elsewhere those of the values before the checks.
unfoldable pub row_elements : RowSymbology → (values : List ℕ) → Result (List Element) ScanFault
row_elements Code39 values = Ok (map character_element values)
row_elements Code39Full values = bytes_from Code39Full 0 None values
row_elements Code93 values = bytes_from Code93 0 None (data_values Code93 values)
row_elements Code128 values = spelled128 (data_values Code128 values)
row_elements Itf14 values = Ok (map digit_element values)
