-- The character sets that texts are encoded in (AIM ITS/04-001).
use Rattle.std.specs.Prelude.{ℕ, Bool, ◌==◌}
use Rattle.std.specs.List.{list_any}
use Rattle.zint_settings.specs.declared.character_sets.TheConstants.{CHARACTER_SETS}

-- the number is the ECI number of a character set that texts are encoded in
unfoldable pub is_character_set : ℕ → Bool
is_character_set n = list_any (λ set. set == n) CHARACTER_SETS
