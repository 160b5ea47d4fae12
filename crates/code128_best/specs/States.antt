-- The states by numbers.
use Rattle.std.specs.Prelude.{ℕ, ◌+◌, ◌*◌, ◌/◌, ◌%◌, ◌==◌, if◌then◌else◌}
use Rattle.code128_best.specs.declared.state.CodeSet.{CodeSet}
use Rattle.code128_best.specs.declared.state.CodeSet.TheVariants.{A, B, C}
use Rattle.code128_best.specs.declared.state.State.{State}

-- The number of a code set.
unfoldable pub set_number : CodeSet → ℕ
set_number A = 0
set_number B = 1
set_number C = 2

-- The number of a state.
unfoldable pub state_number : State → ℕ
state_number s = 8 * set_number s.set + (if s.latch then 4 else 0) + (if s.fnc4 then 2 else 0) + (if s.shift then 1 else 0)

-- The code set of a number.
unfoldable pub numbered_set : ℕ → CodeSet
numbered_set number = if number == 0 then A else (if number == 1 then B else C)

-- The state of a number.
unfoldable pub numbered_state : ℕ → State
numbered_state number = record { set = numbered_set (number / 8); latch = number / 4 % 2 == 1; fnc4 = number / 2 % 2 == 1; shift = number % 2 == 1 }
