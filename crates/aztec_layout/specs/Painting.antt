-- What drawing on a picture leaves.
use Rattle.std.specs.Prelude.{◌≡◌, ℕ, ◌<◌, ◌↔◌, ◌⊎◌, true, Some, length}
use Rattle.bar_base.specs.Picture.{Picture, module_at, row_count}

-- The new picture is the old one with these modules made dark.
pub record Paints (old new : Picture) (IsPainted : ℕ → ℕ → Type 0) : Type 0 where
  pub width : new.width ≡ old.width
  pub heights : new.heights ≡ old.heights
  pub whole : length new.modules ≡ length old.modules
  pub dark : (x y : ℕ) → x < old.width → y < row_count old →
      (module_at new x y ≡ Some true) ↔ ((module_at old x y ≡ Some true) ⊎ IsPainted x y)
