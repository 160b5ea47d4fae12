-- The options of a drawing: what their numbers may be.
use Rattle.std.specs.Prelude.{◌≡◌, ◌≤◌, ℕ, Bool, true, false, Option, is_some}
use Rattle.std.specs.Option.{ForSome}
use Rattle.bar_base.specs.Paint.{IsPaint}
use Rattle.zint_settings.specs.CharacterSets.{is_character_set}
use Rattle.zint_settings.specs.declared.drawing_options.DrawingOptions.{DrawingOptions}
use Rattle.zint_settings.specs.declared.symbology.Symbology.{Symbology}
use Rattle.zint_settings.specs.declared.symbology.Symbology.TheVariants.{Code39}

-- what the numbers among them may be
pub record IsInRange (o : DrawingOptions) : Type 0 where
  pub eci : ForSome o.eci (λ n. is_character_set n ≡ true)
  pub share : o.share ≤ 50
  pub version : ForSome o.version (λ v. (1 ≤ v) × (v ≤ 36))
  pub paint : IsPaint o.paint
  pub height : (1 ≤ o.height) × (o.height ≤ 200)

-- Code 39 has its check character, which the one version that it has asks for
abbrev pub has_check_version : Symbology → (version : Option ℕ) → Bool
has_check_version Code39 version = is_some version
has_check_version _ version = false

-- the symbol has the check character of Code 39
unfoldable pub check_character : DrawingOptions → Bool
check_character o = has_check_version o.symbology o.version
