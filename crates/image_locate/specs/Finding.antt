-- The first stand that shows a finder.
use Rattle.std.specs.Prelude.{◌≡◌, ℕ, ◌+◌, ◌<◌, ◌≤◌, ◌*◌, ◌⊎◌, length, Option, Some, None, if◌then◌else◌}
use Rattle.bar_base.specs.Picture.{Picture}
use Rattle.image_locate.specs.Stands.{IsStand, ShowsFinder}
use Rattle.image_locate.specs.declared.stand.Stand.{Stand}

-- Compact stands before full ones, each kind by its turns.
abbrev pub kind_and_turn : Stand → ℕ
kind_and_turn stand = if stand.full then 4 + stand.turn else stand.turn

-- One stand comes before another: by row, by column, by the pixels of a module, by kind and turn.
abbrev pub ComesBefore : Stand → Stand → Type 0
ComesBefore one other =
    (one.y < other.y) ⊎ ((one.y ≡ other.y)
    × ((one.x < other.x) ⊎ ((one.x ≡ other.x)
    × ((one.u < other.u) ⊎ ((one.u ≡ other.u)
    × (kind_and_turn one < kind_and_turn other))))))

-- The first stand of some that shows a finder, or None where none of them does.
abbrev pub IsFirstOf : Picture → (among : Stand → Type 0) → Option Stand → Type 0
IsFirstOf picture among (Some stand) =
    among stand × IsStand stand × ShowsFinder picture stand
    × ((other : Stand) → among other → IsStand other → ShowsFinder picture other → ComesBefore other stand → ⊥)
IsFirstOf picture among None = (stand : Stand) → among stand → IsStand stand → ShowsFinder picture stand → ⊥

-- The first stand of a picture that shows a finder.
pub record IsFirstStand (picture : Picture) (stand : Stand) : Type 0 where
  pub ranged : IsStand stand
  pub shows : ShowsFinder picture stand
  pub first : (other : Stand) → IsStand other → ShowsFinder picture other → ComesBefore other stand → ⊥

-- No stand of a picture shows a finder.
abbrev pub HasNoStand : Picture → Type 0
HasNoStand picture = (stand : Stand) → IsStand stand → ShowsFinder picture stand → ⊥

-- the stands in a row of pixels
abbrev pub InRow : (y : ℕ) → Stand → Type 0
InRow y stand = stand.y ≡ y

-- the stands at a pixel
abbrev pub AtPixel : (x y : ℕ) → Stand → Type 0
AtPixel x y stand = InRow y stand × (stand.x ≡ x)

-- the stands at a pixel, of a symbol with modules of so many pixels
abbrev pub OfUnit : (x y u : ℕ) → Stand → Type 0
OfUnit x y u stand = AtPixel x y stand × (stand.u ≡ u)

-- At a pixel there is room for a compact core with modules of so many pixels.
pub record HasRoom (picture : Picture) (x y u : ℕ) : Type 0 where
  pub left : 5 * u ≤ x
  pub right : x + 5 * u < picture.width
  pub above : 5 * u ≤ y
  pub below : y + 5 * u < length picture.heights
