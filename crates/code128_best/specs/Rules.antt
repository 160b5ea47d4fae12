-- How values act in a state, one rule for each line of the standard's tables (ISO/IEC 15417, Symbol character values, Shift, FNC4).
use Rattle.std.specs.Prelude.{◌≡◌, ◌<◌, ◌+◌, ◌/◌, ◌%◌, ℕ, true, false, List, [], ◌∷◌}
use Rattle.bar_base.specs.declared.element.Element.{Element}
use Rattle.bar_base.specs.declared.element.Element.TheVariants as element
use Rattle.code128_best.specs.declared.state.CodeSet.{CodeSet}
use Rattle.code128_best.specs.declared.state.CodeSet.TheVariants.{A, B, C}
use Rattle.code128_best.specs.declared.state.State.{State}
use Rattle.code128_best.specs.Values.{character_of, spent, with_fnc4}

-- A or B.
pub data IsTextSet : CodeSet → Type 0 where
  is_a : IsTextSet A
  is_b : IsTextSet B

-- Neither Shift nor FNC4 is pending.
pub record IsNonePending (s : State) : Type 0 where
  pub shift : s.shift ≡ false
  pub fnc4 : s.fnc4 ≡ false

-- `Acts state value next spelled`: in the state the value may stand; it leads to the next state and spells these elements.
pub data Acts : State → ℕ → State → List Element → Type 0 where
  character : {s : State} {value : ℕ} → IsTextSet s.set → value < 96 → Acts s value (spent s) (element.Byte (character_of s value) ∷ [])
  digits : {s : State} {value : ℕ} → s.set ≡ C → value < 100 → Acts s value s (element.Byte (48 + value / 10) ∷ element.Byte (48 + value % 10) ∷ [])
  shift_on : {s : State} → IsTextSet s.set → s.shift ≡ false → Acts s 98 (record s { shift = true }) []
  text_to_c : {s : State} → IsTextSet s.set → IsNonePending s → s.latch ≡ false → Acts s 99 (record s { set = C }) []
  a_to_b : {s : State} → s.set ≡ A → IsNonePending s → Acts s 100 (record s { set = B }) []
  fnc4_in_b : {s : State} → s.set ≡ B → s.shift ≡ false → Acts s 100 (with_fnc4 s) []
  c_to_b : {s : State} → s.set ≡ C → Acts s 100 (record s { set = B }) []
  fnc4_in_a : {s : State} → s.set ≡ A → s.shift ≡ false → Acts s 101 (with_fnc4 s) []
  b_to_a : {s : State} → s.set ≡ B → IsNonePending s → Acts s 101 (record s { set = A }) []
  c_to_a : {s : State} → s.set ≡ C → Acts s 101 (record s { set = A }) []
  fnc1 : {s : State} → IsNonePending s → Acts s 102 s (element.Fnc1 ∷ [])
