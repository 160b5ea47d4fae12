-- The rules on the values of the options, in the order in which the first broken one is named.
use Rattle.std.specs.Prelude.{Bool, not, true, ◌&&◌, ◌||◌, List, ◌++◌, find, map, Option, Some, None, is_some, if◌then◌else◌}
use Rattle.std.specs.Option.{option_map_or}
use Rattle.clap.specs.Words.{Text}
use Rattle.zint_words.specs.CommandLine.{Values, option_names, taken_by}
use Rattle.zint_settings.specs.Forms.{form_in, has_left_out_ending}
use Rattle.zint_words.specs.Numbers.{character_set_in, row_symbology_in, whole_number_in, symbology_in}
use Rattle.zint_words.specs.Options.{admits, is_for_gs1, suits}
use Rattle.zint_words.specs.DrawingOptions.{gs1_source_of, symbology_of}
use Rattle.zint_words.specs.SetPlace.{set_place_in}
use Rattle.zint_words.specs.Settings.{segment_in_text}
use Rattle.zint_settings.specs.Symbologies.{greatest_version}
use Rattle.zint_words.specs.declared.options.OptionName.{OptionName}
use Rattle.zint_words.specs.declared.options.OptionName.TheVariants as option
use Rattle.zint_words.specs.declared.options.Takes.{Takes}
use Rattle.zint_words.specs.declared.options.Takes.TheVariants as takes
use Rattle.zint_words.specs.declared.rules.Rule.{Rule}
use Rattle.zint_words.specs.declared.rules.Rule.TheVariants.{Value, Apart, Alone, Excluded, Behind, Message}
use Rattle.zint_words.specs.declared.rules.TheConstants.{NEEDS, PAIRS}

-- the text is a value that an option which takes this may have
unfoldable pub is_good_text : Values → Takes → Text → Bool
is_good_text v takes.Flag t = true
is_good_text v takes.Text t = true
is_good_text v takes.SymbologyNumber t = is_some (symbology_in t)
is_good_text v takes.RowSymbologyNumber t = is_some (row_symbology_in t)
is_good_text v takes.FileName t = is_some (v option.Filetype) || not (has_left_out_ending t)
is_good_text v takes.FormName t = is_some (form_in t)
is_good_text v (takes.Number low high) t = is_some (whole_number_in low high t)
is_good_text v takes.Version t = is_some (whole_number_in 1 (greatest_version (symbology_of v)) t)
is_good_text v takes.CharacterSet t = is_some (character_set_in t)
is_good_text v takes.SetPlace t = is_some (set_place_in t)
is_good_text v takes.Segment t = is_some (segment_in_text t)

-- the option was not given, or has a value that it may have
unfoldable pub is_good_value : Values → OptionName → Bool
is_good_value v n = option_map_or (is_good_text v (taken_by n)) (v n) true

-- the first option, in the order of the table, that was given and that this one does not admit
unfoldable pub not_admitted_by : Values → OptionName → Option OptionName
not_admitted_by v n = find (λ other. is_some (v other) && not (admits n other)) option_names

-- the option with which this one cannot be given: `-b` where it is not for the symbology, and what makes the data GS1
-- data where it is not for that
unfoldable pub excluded_by : Values → OptionName → Option OptionName
excluded_by v n = if not (is_some (v n)) then None
    else (if not (suits n (symbology_of v)) then Some option.Barcode
    else (if not (is_for_gs1 n) then gs1_source_of v else None))

-- the values break the rule
unfoldable pub breaks : Values → Rule → Bool
breaks v (Value n) = not (is_good_value v n)
breaks v (Apart a b) = is_some (v a) && is_some (v b)
breaks v (Alone n) = is_some (v n) && is_some (not_admitted_by v n)
breaks v (Excluded n) = is_some (excluded_by v n)
breaks v (Behind n before) = is_some (v n) && not (is_some (v before))
breaks v Message = not (is_some (v option.Data)) && not (is_some (v option.Input)) && not (is_some (v option.Demo))

-- the rules in their order: the values of the options; the exclusions, which are options that are not given together and
-- then options with a symbology or with data that they are not for; and what must not be missing, which is the segment
-- before one that is given, `--read` where `--erasures` or `--find` is, and an input; `--find` stands without what tells how a
-- picture was painted and without `--erasures`. Data is GS1 data only with a symbology that carries it: so where `--gs1` is
-- not for the symbology, nothing is excluded by GS1 data, and `--binary` may stand before `--gs1` in the table; and where
-- segments are not for the symbology, the first that is given is named for that, and else the first for GS1 data.
unfoldable pub all_rules : List Rule
all_rules = map Value option_names ++ PAIRS.now ++ map Excluded option_names ++ NEEDS.now

-- the first rule that the values break
unfoldable pub first_broken : Values → Option Rule
first_broken v = find (breaks v) all_rules
