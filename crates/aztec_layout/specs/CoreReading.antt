-- What a picture shows at the core of a symbol.
use Rattle.std.specs.Prelude.{◌≡◌, ℕ, ◌*◌, ◌/◌, ◌<◌, not, Bool, true, List, Option, Some, All, length, slice_get}
use Rattle.bar_base.specs.Picture.{Picture, module_at, row_count}
use Rattle.aztec_layout.specs.Core.{is_core, is_dark_core, mode_place, mode_run}
use Rattle.aztec_layout.specs.ModeMessage.{word_bits}

-- The column and row of the centre of a square picture.
abbrev pub middle_of : Picture → ℕ
middle_of picture = picture.width / 2

-- A module of finder and orientation marks is as it is to be (ISO/IEC 24778, symbol structure).
abbrev pub Agrees : (full : Bool) (picture : Picture) (x y : ℕ) → Type 0
Agrees full picture x y =
    is_core full (middle_of picture) x y ≡ true →
    module_at picture x y ≡ Some (is_dark_core full (middle_of picture) x y)

-- A module of finder and orientation marks is not as it is to be.
abbrev pub Differs : (full : Bool) (picture : Picture) (x y : ℕ) → Type 0
Differs full picture x y =
    (is_core full (middle_of picture) x y ≡ true)
    × (module_at picture x y ≡ Some (not (is_dark_core full (middle_of picture) x y)))

-- A picture has the finder and the orientation marks of a kind (ISO/IEC 24778, symbol structure).
abbrev pub HasFinder : (full : Bool) (picture : Picture) → Type 0
HasFinder full picture = (x y : ℕ) → x < picture.width → y < row_count picture → Agrees full picture x y

-- The first module of finder and marks that differs, row by row from the top, each row from the left.
pub record IsFirstDiffering (full : Bool) (picture : Picture) (x y : ℕ) : Type 0 where
  pub column : x < picture.width
  pub row : y < row_count picture
  pub differs : Differs full picture x y
  pub above : (a b : ℕ) → a < picture.width → b < y → Agrees full picture a b
  pub before : (a : ℕ) → a < x → Agrees full picture a y

-- The module at the place of a bit of the mode message (ISO/IEC 24778, mode message).
abbrev pub mode_module : (full : Bool) (picture : Picture) (bit : ℕ) → Option Bool
mode_module full picture bit =
    module_at picture (mode_place full (middle_of picture) bit).0 (mode_place full (middle_of picture) bit).1

-- The words of four bits whose bits are the modules at the places of the mode message (ISO/IEC 24778, mode message).
pub record AreModeWords (full : Bool) (picture : Picture) (words : List ℕ) : Type 0 where
  pub counted : length words ≡ mode_run full
  pub each : All (λ word. word < 16) words
  pub bits : (t : ℕ) → t < 4 * mode_run full → slice_get (word_bits 4 words) t ≡ mode_module full picture t
