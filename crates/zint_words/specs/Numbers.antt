-- Whole numbers as texts write them.
use Rattle.std.specs.Prelude.{ℕ, Bool, ◌&&◌, nat_lt, nat_le, length, Option, Some, None, if◌then◌else◌, option_and_then}
use Rattle.std.specs.Char.{is_ascii_digit}
use Rattle.std.specs.List.{list_all}
use Rattle.std.specs.Str.Parse.{digits_value}
use Rattle.clap.specs.Words.{Text}
use Rattle.zint_settings.specs.CharacterSets.{is_character_set}
use Rattle.zint_settings.specs.Symbologies.{symbology_numbered}
use Rattle.zint_settings.specs.Looks.{row_symbology_numbered}
use Rattle.zint_settings.specs.declared.look.RowSymbology.{RowSymbology}
use Rattle.zint_settings.specs.declared.symbology.Symbology.{Symbology}

-- 1 to 10 decimal digits
abbrev pub is_whole_number : Text → Bool
is_whole_number t = nat_lt 0 (length t) && nat_le (length t) 10 && list_all is_ascii_digit t

-- the number that such a text writes
unfoldable pub whole_number : Text → Option ℕ
whole_number t = if is_whole_number t then Some (digits_value 10 t) else None

-- the number, where it is from low to high
abbrev pub kept_between : ℕ → ℕ → ℕ → Option ℕ
kept_between low high n = if nat_le low n && nat_le n high then Some n else None

-- a whole number from low to high
unfoldable pub whole_number_in : ℕ → ℕ → Text → Option ℕ
whole_number_in low high t = option_and_then (kept_between low high) (whole_number t)

-- the number, where it is the ECI number of a character set
abbrev pub kept_character_set : ℕ → Option ℕ
kept_character_set n = if is_character_set n then Some n else None

-- the ECI number of a character set
unfoldable pub character_set_in : Text → Option ℕ
character_set_in t = option_and_then kept_character_set (whole_number_in 0 999999 t)

-- the symbology whose number the text writes
unfoldable pub symbology_in : Text → Option Symbology
symbology_in t = option_and_then symbology_numbered (whole_number t)

-- the symbology whose rows are read, and whose number the text writes
unfoldable pub row_symbology_in : Text → Option RowSymbology
row_symbology_in t = option_and_then row_symbology_numbered (whole_number t)
