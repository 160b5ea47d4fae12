-- The only value that can spell characters or digits at a stand.
use Rattle.std.specs.Prelude.{ℕ, Bool, false, ◌&&◌, ◌+◌, ◌-◌, ◌*◌, nat_lt, List, Option, Some, None, slice_get, if◌then◌else◌}
use Rattle.bar_base.specs.declared.element.Element.{Element}
use Rattle.bar_base.specs.declared.element.Element.TheVariants as element
use Rattle.code128_best.specs.declared.state.CodeSet.{CodeSet}
use Rattle.code128_best.specs.declared.state.CodeSet.TheVariants.{A, B, C}
use Rattle.code128_best.specs.declared.state.State.{State}
use Rattle.code128_best.specs.declared.stepping.Stand.{Stand}
use Rattle.code128_best.specs.Values.{reading_set, reads_high, spent}

-- The value of a character in a code set; 0 where the set lacks it.
unfoldable pub set_value : CodeSet → (character : ℕ) → ℕ
set_value A character = if nat_lt character 32 then character + 64 else if nat_lt character 96 then character - 32 else 0
set_value B character = if nat_lt character 32 then 0 else if nat_lt character 128 then character - 32 else 0
set_value C character = if nat_lt character 96 then character else 0

-- The value of a byte in a code set, where 128 is added or not.
unfoldable pub value_by : (high : Bool) → CodeSet → (byte : ℕ) → ℕ
value_by high set byte = if high then (if nat_lt byte 128 then 0 else set_value set (byte - 128)) else (if nat_lt byte 128 then set_value set byte else 0)

-- The value of an element in a state.
unfoldable pub value_of_byte : Option Element → State → ℕ
value_of_byte None s = 0
value_of_byte (Some (element.Byte byte)) s = value_by (reads_high s) (reading_set s) byte
value_of_byte (Some (element.Eci number)) s = 0
value_of_byte (Some element.Fnc1) s = 0

-- The digit that an element is; 0 where it is none.
unfoldable pub digit_of : Option Element → ℕ
digit_of None = 0
digit_of (Some (element.Byte byte)) = if nat_lt byte 48 then 0 else if nat_lt byte 58 then byte - 48 else 0
digit_of (Some (element.Eci number)) = 0
digit_of (Some element.Fnc1) = 0

-- The value of two digits.
unfoldable pub value_of_pair : (first second : Option Element) → ℕ
value_of_pair first second = 10 * digit_of first + digit_of second

-- The value at a stand.
unfoldable pub own_of : List Element → Stand → ℕ
own_of elements at =
    elim at.state.set as (λ _. ℕ) [
      | A ↦ value_of_byte (slice_get elements at.place) at.state
      | B ↦ value_of_byte (slice_get elements at.place) at.state
      | C ↦ value_of_pair (slice_get elements at.place) (slice_get elements (at.place + 1))
    ]

-- Whether a code set has a character.
unfoldable pub set_has_character : CodeSet → (character : ℕ) → Bool
set_has_character A character = nat_lt character 96
set_has_character B character = if nat_lt character 32 then false else nat_lt character 128
set_has_character C character = nat_lt character 96

-- Whether a code set has a byte, where 128 is added or not.
unfoldable pub set_has_byte : (high : Bool) → CodeSet → (byte : ℕ) → Bool
set_has_byte high set byte = if high then (if nat_lt byte 128 then false else set_has_character set (byte - 128)) else (if nat_lt byte 128 then set_has_character set byte else false)

-- Whether an element is spelled by one character in a state.
unfoldable pub element_fits : Option Element → State → Bool
element_fits None s = false
element_fits (Some (element.Byte byte)) s = set_has_byte (reads_high s) (reading_set s) byte
element_fits (Some (element.Eci number)) s = false
element_fits (Some element.Fnc1) s = false

-- Whether an element is a digit.
unfoldable pub is_digit : Option Element → Bool
is_digit None = false
is_digit (Some (element.Byte byte)) = if nat_lt byte 48 then false else nat_lt byte 58
is_digit (Some (element.Eci number)) = false
is_digit (Some element.Fnc1) = false

-- The stand after one character.
unfoldable pub text_step : List Element → Stand → Option Stand
text_step elements at = if element_fits (slice_get elements at.place) at.state then Some (record { place = at.place + 1; state = spent at.state }) else None

-- The stand after two digits.
unfoldable pub pair_step : List Element → Stand → Option Stand
pair_step elements at =
    if is_digit (slice_get elements at.place) && is_digit (slice_get elements (at.place + 1)) then Some (record { place = at.place + 2; state = at.state }) else None

-- The stand after the value.
unfoldable pub own_step_of : List Element → Stand → Option Stand
own_step_of elements at = elim at.state.set as (λ _. Option Stand) [ A ↦ text_step elements at | B ↦ text_step elements at | C ↦ pair_step elements at ]
