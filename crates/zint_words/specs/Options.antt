-- What the table of the options says of an option besides its names.
use Rattle.std.specs.Prelude.{Bool, true, ◌||◌, List}
use Rattle.std.specs.List.{list_any}
use Rattle.std.specs.Option.{option_map_or}
use denote.Enum.Bare.{sameb}
use Rattle.zint_words.specs.CommandLine.{option_row}
use Rattle.zint_settings.specs.Symbologies.{is_same_symbology}
use Rattle.zint_words.specs.contracts.options.OptionName.{the_type}
use Rattle.zint_words.specs.declared.options.OptionName.{OptionName}
use Rattle.zint_settings.specs.declared.symbology.Symbology.{Symbology}

-- the symbology is in the list
abbrev pub has_symbology : List Symbology → Symbology → Bool
has_symbology symbologies s = list_any (λ other. is_same_symbology other s) symbologies

-- the option is for the symbology
unfoldable pub suits : OptionName → Symbology → Bool
suits n s = option_map_or (λ suited. has_symbology suited s) (option_row n).suited true

-- the option is for GS1 data, as for all other data
unfoldable pub is_for_gs1 : OptionName → Bool
is_for_gs1 n = (option_row n).is_for_gs1

-- the two options are the same
abbrev pub is_same_option : OptionName → OptionName → Bool
is_same_option a b = sameb the_type a b

-- the option is in the list
abbrev pub has_option : List OptionName → OptionName → Bool
has_option options n = list_any (λ other. is_same_option other n) options

-- the option may be given with the other one, as with itself
unfoldable pub admits : OptionName → OptionName → Bool
admits n other = option_map_or (λ company. is_same_option other n || has_option company other) (option_row n).company true
