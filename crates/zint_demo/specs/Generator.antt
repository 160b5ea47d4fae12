-- The generator of the demonstration's text, and what its drawn numbers name.
use Rattle.std.specs.Prelude.{ℕ, ◌+◌, ◌*◌, ◌/◌, ◌%◌, ◌==◌, if◌then◌else◌}
use Rattle.zint_demo.specs.declared.generator.Class.{Class}
use Rattle.zint_demo.specs.declared.generator.Class.TheVariants.{Capital, Small, Digit, Sign, Any}

-- The state behind a state.
unfoldable pub next_state : ℕ → ℕ
next_state state = (1103515245 * state + 12345) % 2147483648

-- The number that is drawn in a state.
abbrev pub drawn_in : (state : ℕ) → ℕ
drawn_in state = state / 65536

-- The class that a drawn number names.
abbrev pub class_of : (drawn : ℕ) → Class
class_of drawn =
    if drawn % 5 == 0 then Capital
    else if drawn % 5 == 1 then Small
    else if drawn % 5 == 2 then Digit
    else if drawn % 5 == 3 then Sign
    else Any

-- The length of a piece that a drawn number names.
abbrev pub piece_length : (drawn : ℕ) → ℕ
piece_length drawn = 1 + drawn % 40

-- The byte of a class that a drawn number names.
abbrev pub byte_in : Class → (drawn : ℕ) → ℕ
byte_in Capital drawn = 65 + drawn % 26
byte_in Small drawn = 97 + drawn % 26
byte_in Digit drawn = 48 + drawn % 10
byte_in Sign drawn = 33 + drawn % 15
byte_in Any drawn = drawn % 256
