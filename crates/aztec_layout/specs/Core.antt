-- What is fixed round the centre of a symbol: finder, orientation marks, reference grid, and the places of the mode message.
-- A symbol and a rune share it, by the kind of the core and by the column and row of the centre, which are one number.
use Rattle.std.specs.Prelude.{◌≢◌, ◌<◌, ℕ, ◌+◌, ◌-◌, ◌*◌, ◌/◌, ◌%◌, ◌==◌, ◌&&◌, ◌||◌, ◌∷◌, [], List, max, nat_lt, nat_le, Bool, if◌then◌else◌}
use Rattle.std.specs.Int.{abs_diff}
use Rattle.std.specs.List.{list_any}

-- The square ring about the centre on which a module lies: the greater one of the distances of its column and its row from the centre
-- (ISO/IEC 24778, symbol structure).
abbrev pub ring_of : (centre x y : ℕ) → ℕ
ring_of centre x y = max (abs_diff x centre) (abs_diff y centre)

-- The ring of the orientation marks and of the mode message: 5 in a compact core, 7 in a full one
-- (ISO/IEC 24778, symbol structure).
abbrev pub rim_of : Bool → ℕ
rim_of full = if full then 7 else 5

-- The finder is all inside the rim: square rings about the centre, dark where their number is even (ISO/IEC 24778, symbol structure).
abbrev pub is_finder : (full : Bool) (centre x y : ℕ) → Bool
is_finder full centre x y = nat_lt (ring_of centre x y) (rim_of full)

-- The dark modules of the finder.
abbrev pub is_dark_finder : (full : Bool) (centre x y : ℕ) → Bool
is_dark_finder full centre x y = is_finder full centre x y && (ring_of centre x y % 2 == 0)

-- The orientation marks, three at each corner of the rim from the column and row `low` to `high`, as columns and rows. These
-- are the dark ones (ISO/IEC 24778, symbol structure).
abbrev pub dark_marks : (low high : ℕ) → List (ℕ × ℕ)
dark_marks low high =
    (low, low) ∷ (low + 1, low) ∷ (low, low + 1) ∷ (high, low) ∷ (high, low + 1) ∷ (high, high - 1) ∷ []

-- The light orientation marks (ISO/IEC 24778, symbol structure).
abbrev pub light_marks : (low high : ℕ) → List (ℕ × ℕ)
light_marks low high =
    (high - 1, low) ∷ (high, high) ∷ (high - 1, high) ∷ (low, high) ∷ (low, high - 1) ∷ (low + 1, high) ∷ []

-- Whether a place is one of a list.
abbrev pub is_among : (x y : ℕ) → List (ℕ × ℕ) → Bool
is_among x y places = list_any (λ place. (x == place.0) && (y == place.1)) places

-- The dark marks round a centre.
abbrev pub is_dark_mark : (full : Bool) (centre x y : ℕ) → Bool
is_dark_mark full centre x y = is_among x y (dark_marks (centre - rim_of full) (centre + rim_of full))

-- The light marks round a centre.
abbrev pub is_light_mark : (full : Bool) (centre x y : ℕ) → Bool
is_light_mark full centre x y = is_among x y (light_marks (centre - rim_of full) (centre + rim_of full))

-- The reference grid of a full symbol: the lines through the centre and 16 modules apart from there on, from the rim on outwards, where on
-- the rim itself the four modules above, below, left and right of the centre belong to it. Dark and light alternate, and the centre
-- would be dark (ISO/IEC 24778, symbol structure).
abbrev pub is_reference : (full : Bool) (centre x y : ℕ) → Bool
is_reference full centre x y =
    full && (nat_le (rim_of full) (ring_of centre x y) && ((abs_diff x centre % 16 == 0) || (abs_diff y centre % 16 == 0)))

-- The dark modules of the reference grid.
abbrev pub is_dark_reference : (full : Bool) (centre x y : ℕ) → Bool
is_dark_reference full centre x y = is_reference full centre x y && ((abs_diff x centre + abs_diff y centre) % 2 == 0)

-- The bits of the mode message on one side of the rim (ISO/IEC 24778, mode message).
abbrev pub mode_run : Bool → ℕ
mode_run full = if full then 10 else 7

-- The column or row of bit i on a side. In a full core the reference line lies between bits 4 and 5 (ISO/IEC 24778, mode message).
abbrev pub mode_line : (full : Bool) (centre i : ℕ) → ℕ
mode_line full centre i = if full then centre - 5 + i + i / 5 else centre - 3 + i

-- The column and row of bit t of the mode message, which runs round the core clockwise: to the right along the top, down along the
-- right, to the left along the bottom, up along the left (ISO/IEC 24778, mode message).
abbrev pub mode_place : (full : Bool) (centre t : ℕ) → ℕ × ℕ
mode_place full centre t =
    let run = mode_run full in
    let low = centre - rim_of full in
    let high = centre + rim_of full in
    if nat_lt t run then (mode_line full centre t, low)
    else if nat_lt t (2 * run) then (high, mode_line full centre (t - run))
    else if nat_lt t (3 * run) then (mode_line full centre (3 * run - 1 - t), high)
    else (low, mode_line full centre (4 * run - 1 - t))

-- What is dark whatever the symbol says: of the finder, the orientation marks and the reference grid.
abbrev pub is_dark_fixed : (full : Bool) (centre x y : ℕ) → Bool
is_dark_fixed full centre x y =
    is_dark_finder full centre x y || (is_dark_mark full centre x y || is_dark_reference full centre x y)

-- The modules that tell a core: finder and orientation marks.
abbrev pub is_core : (full : Bool) (centre x y : ℕ) → Bool
is_core full centre x y =
    is_finder full centre x y || (is_dark_mark full centre x y || is_light_mark full centre x y)

-- The dark ones of them.
abbrev pub is_dark_core : (full : Bool) (centre x y : ℕ) → Bool
is_dark_core full centre x y = is_dark_finder full centre x y || is_dark_mark full centre x y

-- A module outside each core and off each line of the reference grid.
pub record IsBare (centre x y : ℕ) : Type 0 where
  pub column : abs_diff x centre % 16 ≢ 0
  pub row : abs_diff y centre % 16 ≢ 0
  pub outside : 7 < ring_of centre x y
