-- Where a symbol stands in a picture of pixels, and which pixels show its modules.
use Rattle.std.specs.Prelude.{◌≡◌, ℕ, ◌+◌, ◌-◌, ◌*◌, ◌/◌, ◌<◌, ◌≤◌, ◌==◌, ◌&&◌, Bool, true, Option, Some, None, length, replicate, is_some, nat_le, nat_lt, if◌then◌else◌}
use Rattle.bar_base.specs.Picture.{Picture, module_at, row_count}
use Rattle.aztec_layout.specs.Core.{is_core, is_dark_core, rim_of}
use Rattle.aztec_layout.specs.Sizes.{side_of}
use Rattle.aztec_layout.specs.declared.sizes.Size.{Size}
use Rattle.image_locate.specs.declared.stand.Stand.{Stand}

-- A stand in range: a module is 1 to 64 pixels wide, and the symbol is turned by less than four quarter turns.
pub record IsStand (stand : Stand) : Type 0 where
  pub some : 1 ≤ stand.u
  pub few : stand.u ≤ 64
  pub turns : stand.turn < 4

-- Where the module in column a and row b of a square of modules goes when the square is turned about its middle, clockwise by
-- so many quarter turns: its new column and row.
unfoldable pub turned : (turn middle a b : ℕ) → ℕ × ℕ
turned turn middle a b =
    if turn == 0 then (a, b)
    else (if turn == 1 then (2 * middle - b, a)
    else (if turn == 2 then (2 * middle - a, 2 * middle - b)
    else (b, 2 * middle - a)))

-- The pixel that lies `back` columns left of column p and as many rows above row q; None where that is outside the picture.
unfoldable pub pixel_before : Picture → (back p q : ℕ) → Option Bool
pixel_before picture back p q =
    if (nat_le back p && nat_lt p (back + picture.width)) && (nat_le back q && nat_lt q (back + row_count picture))
    then module_at picture (p - back) (q - back) else None

-- The module in column a and row b of a square of modules whose middle is at a stand; None where its pixel is outside the
-- picture.
unfoldable pub module_seen : Picture → Stand → (middle a b : ℕ) → Option Bool
module_seen picture stand middle a b =
    pixel_before picture (stand.u * middle)
    (stand.x + stand.u * (turned stand.turn middle a b).0) (stand.y + stand.u * (turned stand.turn middle a b).1)

-- A module of the core of a stand's kind: where it is one of finder and orientation marks, it lies in the picture and is as it
-- is to be (ISO/IEC 24778, symbol structure).
abbrev pub AgreesAt : Picture → Stand → (a b : ℕ) → Type 0
AgreesAt picture stand a b = is_core stand.full (rim_of stand.full) a b ≡ true →
    module_seen picture stand (rim_of stand.full) a b ≡ Some (is_dark_core stand.full (rim_of stand.full) a b)

-- A stand shows a finder: finder and orientation marks of its kind lie in the picture and are as they are to be
-- (ISO/IEC 24778, symbol structure).
abbrev pub ShowsFinder : Picture → Stand → Type 0
ShowsFinder picture stand = (a b : ℕ) → AgreesAt picture stand a b

-- The cut of a size of a stand's kind: the grid of its modules, which all lie in the picture.
pub record IsCut (picture : Picture) (stand : Stand) (size : Size) (cut : Picture) : Type 0 where
  pub kind : size.full ≡ stand.full
  pub width : cut.width ≡ side_of size
  pub heights : cut.heights ≡ replicate (side_of size) 1
  pub whole : length cut.modules ≡ side_of size * side_of size
  pub inside : (a b : ℕ) → a < side_of size → b < side_of size →
      is_some (module_seen picture stand (side_of size / 2) a b) ≡ true
  pub modules : (a b : ℕ) → a < side_of size → b < side_of size →
      module_at cut a b ≡ module_seen picture stand (side_of size / 2) a b
