-- How the values of Code 128 act (ISO/IEC 15417, Symbol character values and Special characters).
use Rattle.std.specs.Prelude.{ℕ, Bool, true, false, not, ◌&&◌, ◌+◌, ◌-◌, ◌/◌, ◌%◌, ◌==◌, nat_lt, List, [], ◌∷◌, Option, Some, None, if◌then◌else◌}
use Rattle.bar_base.specs.declared.element.Element.{Element}
use Rattle.bar_base.specs.declared.element.Element.TheVariants as element
use Rattle.code128_best.specs.declared.state.CodeSet.{CodeSet}
use Rattle.code128_best.specs.declared.state.CodeSet.TheVariants.{A, B, C}
use Rattle.code128_best.specs.declared.state.State.{State}
use Rattle.code128_best.specs.declared.effect.Spelled.{Spelled}
use Rattle.code128_best.specs.declared.effect.Spelled.TheVariants.{Nothing, Character, Digits, Fnc1}
use Rattle.code128_best.specs.declared.effect.Effect.{Effect}

-- The character of a value below 96: in B it is 32 and the value; in A it is so for values below 64, and the value less 64 from 64 on.
unfoldable pub character_of_set : CodeSet → (value : ℕ) → ℕ
character_of_set A value = if nat_lt value 64 then 32 + value else value - 64
character_of_set B value = 32 + value
character_of_set C value = value

-- The other one of A and B.
unfoldable pub other_set : CodeSet → CodeSet
other_set A = B
other_set B = A
other_set C = C

-- A character is read in the state's set, or in the other one where Shift is on.
unfoldable pub reading_set : State → CodeSet
reading_set s = if s.shift then other_set s.set else s.set

-- 128 is added where exactly one of the latch and the pending FNC4 is on.
unfoldable pub reads_high : State → Bool
reads_high s = if s.latch then not s.fnc4 else s.fnc4

-- The byte that a value below 96 spells.
unfoldable pub character_of : State → (value : ℕ) → ℕ
character_of s value = if reads_high s then character_of_set (reading_set s) value + 128 else character_of_set (reading_set s) value

-- After a character the pending Shift and the pending FNC4 are off.
unfoldable pub spent : State → State
spent s = record s { fnc4 = false; shift = false }

-- A pending FNC4 is off after another one, and the latch is turned; else it is on.
unfoldable pub with_fnc4 : State → State
with_fnc4 s = if s.fnc4 then record s { fnc4 = false; latch = not s.latch } else record s { fnc4 = true }

-- Shift and FNC4 are off.
unfoldable pub is_free : State → Bool
is_free s = not s.fnc4 && not s.shift

-- A value that spells nothing, where it may stand.
unfoldable pub silent_if : Bool → State → Option Effect
silent_if may next = if may then Some (record { next = next; spelled = Nothing }) else None

-- FNC1, which leaves the state.
unfoldable pub fnc1_if : Bool → State → Option Effect
fnc1_if may s = if may then Some (record { next = s; spelled = Fnc1 }) else None

-- One character.
unfoldable pub character_effect : State → (value : ℕ) → Effect
character_effect s value = record { next = spent s; spelled = Character (character_of s value) }

-- A value in set A.
unfoldable pub act_in_a : State → (value : ℕ) → Option Effect
act_in_a s value =
    if nat_lt value 96 then Some (character_effect s value)
    else if value == 98 then silent_if (not s.shift) (record s { shift = true })
    else if value == 99 then silent_if (is_free s && not s.latch) (record s { set = C })
    else if value == 100 then silent_if (is_free s) (record s { set = B })
    else if value == 101 then silent_if (not s.shift) (with_fnc4 s)
    else if value == 102 then fnc1_if (is_free s) s
    else None

-- A value in set B.
unfoldable pub act_in_b : State → (value : ℕ) → Option Effect
act_in_b s value =
    if nat_lt value 96 then Some (character_effect s value)
    else if value == 98 then silent_if (not s.shift) (record s { shift = true })
    else if value == 99 then silent_if (is_free s && not s.latch) (record s { set = C })
    else if value == 100 then silent_if (not s.shift) (with_fnc4 s)
    else if value == 101 then silent_if (is_free s) (record s { set = A })
    else if value == 102 then fnc1_if (is_free s) s
    else None

-- A value in set C.
unfoldable pub act_in_c : State → (value : ℕ) → Option Effect
act_in_c s value =
    if nat_lt value 100 then Some (record { next = s; spelled = Digits (48 + value / 10) (48 + value % 10) })
    else if value == 100 then silent_if true (record s { set = B })
    else if value == 101 then silent_if true (record s { set = A })
    else if value == 102 then fnc1_if (is_free s) s
    else None

-- What a value does in a state; none where it may not stand there.
unfoldable pub act_of : State → (value : ℕ) → Option Effect
act_of s value = elim s.set as (λ _. Option Effect) [ A ↦ act_in_a s value | B ↦ act_in_b s value | C ↦ act_in_c s value ]

-- The elements that a value spells.
unfoldable pub spelled_elements : Spelled → List Element
spelled_elements Nothing = []
spelled_elements (Character byte) = element.Byte byte ∷ []
spelled_elements (Digits first second) = element.Byte first ∷ element.Byte second ∷ []
spelled_elements Fnc1 = element.Fnc1 ∷ []

-- How many elements those are.
unfoldable pub spelled_count : Spelled → ℕ
spelled_count Nothing = 0
spelled_count (Character byte) = 1
spelled_count (Digits first second) = 2
spelled_count Fnc1 = 1
