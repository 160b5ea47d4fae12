-- Steps from stand to stand, and what they cost.
use Rattle.std.specs.Prelude.{ℕ, Bool, true, false, ◌&&◌, ◌+◌, ◌*◌, ◌/◌, ◌%◌, ◌==◌, List, length, slice_get, slice_index, Option, Some, None, if◌then◌else◌}
use Rattle.bar_base.specs.declared.element.Element.{Element}
use Rattle.bar_base.specs.declared.element.Element.TheVariants as element
use Rattle.code128_best.specs.declared.effect.Spelled.{Spelled}
use Rattle.code128_best.specs.declared.effect.Spelled.TheVariants.{Nothing, Character, Digits, Fnc1}
use Rattle.code128_best.specs.declared.effect.Effect.{Effect}
use Rattle.code128_best.specs.declared.state.CodeSet.TheVariants.{A, B, C}
use Rattle.code128_best.specs.declared.state.State.{State}
use Rattle.code128_best.specs.declared.stepping.Stand.{Stand}
use Rattle.code128_best.specs.States.{state_number, numbered_state}
use Rattle.code128_best.specs.Values.{act_of, is_free, spelled_count}

-- Whether an element is there and is this byte.
unfoldable pub is_byte : Option Element → ℕ → Bool
is_byte None byte = false
is_byte (Some (element.Byte other)) byte = byte == other
is_byte (Some (element.Eci number)) byte = false
is_byte (Some element.Fnc1) byte = false

-- Whether an element is there and is FNC1.
unfoldable pub is_fnc1_element : Option Element → Bool
is_fnc1_element None = false
is_fnc1_element (Some (element.Byte other)) = false
is_fnc1_element (Some (element.Eci number)) = false
is_fnc1_element (Some element.Fnc1) = true

-- Whether the elements at a place are those that a value spells.
unfoldable pub stands_at : Spelled → List Element → (place : ℕ) → Bool
stands_at Nothing elements place = true
stands_at (Character byte) elements place = is_byte (slice_get elements place) byte
stands_at (Digits first second) elements place = is_byte (slice_get elements place) first && is_byte (slice_get elements (place + 1)) second
stands_at Fnc1 elements place = is_fnc1_element (slice_get elements place)

-- The stand after an effect at a place.
unfoldable pub follow : List Element → (place : ℕ) → Option Effect → Option Stand
follow elements place None = None
follow elements place (Some effect) =
    if stands_at effect.spelled elements place then Some (record { place = place + spelled_count effect.spelled; state = effect.next }) else None

-- The stand after a value.
unfoldable pub value_step : List Element → Stand → (value : ℕ) → Option Stand
value_step elements at value = follow elements at.place (act_of at.state value)

-- Whether all elements are spelled and nothing is pending.
unfoldable pub is_end : List Element → Stand → Bool
is_end elements at = (at.place == length elements) && is_free at.state

-- The stand of an index of the table.
unfoldable pub stand_of : (index : ℕ) → Stand
stand_of index = record { place = index / 24; state = numbered_state (index % 24) }

-- The stand before an element in set A or B, and in set C.
abbrev pub text_stand : (place : ℕ) → (is_b latch fnc4 shift : Bool) → Stand
text_stand place is_b latch fnc4 shift = record { place = place; state = record { set = if is_b then B else A; latch = latch; fnc4 = fnc4; shift = shift } }

-- The stand before an element in set C, the set of pairs of digits.
abbrev pub pairs_stand : (place : ℕ) → (latch fnc4 shift : Bool) → Stand
pairs_stand place latch fnc4 shift = record { place = place; state = record { set = C; latch = latch; fnc4 = fnc4; shift = shift } }

-- The cost kept for a stand.
unfoldable pub kept_values : List ℕ → Stand → ℕ
kept_values table at = slice_index table (24 * at.place + state_number at.state)

-- The cost through a next stand, if there is one.
unfoldable pub next_cost : List ℕ → Option Stand → ℕ
next_cost table None = 1000
next_cost table (Some next) = 1 + kept_values table next

-- The cost through a value.
unfoldable pub values_through : List ℕ → List Element → Stand → (value : ℕ) → ℕ
values_through table elements at value = next_cost table (value_step elements at value)

-- The stand at the beginning, in a state.
unfoldable pub beginning : State → Stand
beginning state = record { place = 0; state = state }
