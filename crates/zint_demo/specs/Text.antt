-- The text of the demonstration: pieces, each of bytes of one class.
use Rattle.std.specs.Prelude.{ℕ, zero, suc, List, [], ◌∷◌, ◌++◌, take}
use Rattle.zint_demo.specs.declared.generator.Class.{Class}
use Rattle.zint_demo.specs.Generator.{byte_in, class_of, drawn_in, next_state, piece_length}

-- So many bytes of a class, each by the number of one draw, behind a state.
unfoldable pub bytes_behind : Class → (state count : ℕ) → List ℕ
bytes_behind class state zero = []
bytes_behind class state (suc count) =
    byte_in class (drawn_in (next_state state)) ∷ bytes_behind class (next_state state) count

-- The state behind so many draws.
unfoldable pub state_behind : (state draws : ℕ) → ℕ
state_behind state zero = state
state_behind state (suc draws) = state_behind (next_state state) draws

-- The class of the piece behind a state: its first draw.
abbrev pub piece_class : (state : ℕ) → Class
piece_class state = class_of (drawn_in (next_state state))

-- The number of its bytes: its second draw.
abbrev pub piece_count : (state : ℕ) → ℕ
piece_count state = piece_length (drawn_in (next_state (next_state state)))

-- The piece behind a state: a draw for its class, one for its length, and one for each byte.
unfoldable pub piece : (state : ℕ) → List ℕ
piece state = bytes_behind (piece_class state) (next_state (next_state state)) (piece_count state)

-- The state behind that piece.
unfoldable pub piece_end : (state : ℕ) → ℕ
piece_end state = state_behind (next_state (next_state state)) (piece_count state)

-- So many pieces behind a state, one after the other.
unfoldable pub pieces : (state count : ℕ) → List ℕ
pieces state zero = []
pieces state (suc count) = piece state ++ pieces (piece_end state) count

-- The text of a number, which is the first state: the first 1,500 bytes of its pieces. A piece has a byte at least, so
-- 1,500 pieces are enough.
unfoldable pub demonstration_text : (number : ℕ) → List ℕ
demonstration_text number = take 1500 (pieces number 1500)
