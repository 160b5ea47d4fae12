-- The text that names a broken rule.
use Rattle.std.specs.Prelude.{◌++◌, [], codes, encode_utf8, unwrap_or}
use Rattle.std.specs.Option.{option_map_or}
use Rattle.clap.specs.Words.{Text}
use Rattle.zint_words.specs.CommandLine.{Values, long_name, short_name}
use Rattle.zint_words.specs.Rules.{excluded_by, not_admitted_by}
use Rattle.zint_words.specs.declared.options.OptionName.{OptionName}
use Rattle.zint_words.specs.declared.options.OptionName.TheVariants as option
use Rattle.zint_words.specs.declared.rules.Rule.{Rule}
use Rattle.zint_words.specs.declared.rules.Rule.TheVariants.{Value, Apart, Alone, Excluded, Behind, Message}

-- an option as it is named: by its letter, as `-b`, where it has one, and else as `--secure`
unfoldable pub option_written : OptionName → Text
option_written n = option_map_or (λ letter. codes "-" ++ encode_utf8 letter) (short_name n) (codes "--" ++ long_name n)

-- two options that are given together
abbrev pub together : OptionName → OptionName → Text
together a b = option_written a ++ codes " with " ++ option_written b

-- an option that is given without one that must stand before it
abbrev pub without : OptionName → OptionName → Text
without a b = option_written a ++ codes " without " ++ option_written b

-- as `--secure=5`, as `-d with -i`, as `--secure with -b`, as `--seg2 without --seg1`, or `no input`
unfoldable pub broken_text : Values → Rule → Text
broken_text v (Value n) = option_written n ++ codes "=" ++ unwrap_or (v n) []
broken_text v (Apart a b) = together a b
broken_text v (Alone n) = together n (unwrap_or (not_admitted_by v n) option.Barcode)
broken_text v (Excluded n) = together n (unwrap_or (excluded_by v n) option.Barcode)
broken_text v (Behind n before) = without n before
broken_text v Message = codes "no input"
