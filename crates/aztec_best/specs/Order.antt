-- Dictionary order of bits, 0 before 1, and the order of the codes of a mode that it makes.
use Rattle.std.specs.Prelude.{ℕ, ◌+◌, ◌-◌, ◌*◌, Bool, true, false, List, ◌∷◌}
use Rattle.aztec_modes.specs.declared.mode.Mode.{Mode}
use Rattle.aztec_modes.specs.declared.code.Code.{Code}
use Rattle.aztec_modes.specs.declared.code.Code.TheVariants.{Latch, Plain, Shift, Fnc1, Eci, Run}
use Rattle.aztec_modes.specs.Entry.{latch_number, shift_number}

-- At the first place where they differ, the former has 0 and the latter 1.
pub data IsBefore : List Bool → List Bool → Type 0 where
  differ : {former latter : List Bool} → IsBefore (false ∷ former) (true ∷ latter)
  same : {bit : Bool} {former latter : List Bool} → IsBefore former latter → IsBefore (bit ∷ former) (bit ∷ latter)

-- The number in the table of the mode with which a code begins.
unfoldable pub first_number : Mode → Code → ℕ
first_number mode (Latch to) = latch_number mode to
first_number mode (Plain number) = number
first_number mode (Shift to number) = shift_number mode to
first_number mode Fnc1 = 0
first_number mode (Eci number count) = 0
first_number mode (Run count long) = 31

-- A number of what follows there: n of FLG(n); after a shift FLG(0) to FLG(6) and then the data codes from 1 on; after B/S the lengths
-- 31 to 2,078 of the long form, which begins with 0, and then 1 to 31 of the short one.
unfoldable pub second_number : Code → ℕ
second_number (Latch to) = 0
second_number (Plain number) = 0
second_number (Shift to number) = number + 6
second_number Fnc1 = 0
second_number (Eci number count) = count
second_number (Run count true) = count - 31
second_number (Run count false) = count + 2047

-- The rank of a code among the codes of its mode: of two that spell the front of the same elements, the one with the lower rank has the
-- bits that come first.
abbrev pub code_rank : Mode → Code → ℕ
code_rank mode code = first_number mode code * 4096 + second_number code
