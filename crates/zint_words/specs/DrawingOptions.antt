-- The options of a drawing, each as a function of the values that the options were given.
use Rattle.std.specs.Prelude.{◌≤◌, ◌-◌, ℕ, Bool, true, false, not, if◌then◌else◌, Option, Some, None, option_map, is_some, option_and_then, unwrap_or, slice_index}
use Rattle.std.specs.Option.{option_map_or}
use Rattle.clap.specs.Words.{Text}
use Rattle.bar_base.specs.declared.paint.Paint.{Paint}
use Rattle.zint_words.specs.CommandLine.{Values, taken_by}
use Rattle.zint_settings.specs.Forms.{form_by_ending, form_in}
use Rattle.zint_words.specs.Numbers.{character_set_in, symbology_in, whole_number_in}
use Rattle.zint_words.specs.Options.{suits}
use Rattle.zint_settings.specs.Symbologies.{greatest_version}
use Rattle.zint_settings.specs.declared.drawing_options.DrawingOptions.{DrawingOptions}
use Rattle.zint_settings.specs.declared.drawing_options.Gs1Brackets.{Gs1Brackets}
use Rattle.zint_settings.specs.declared.drawing_options.Gs1Brackets.TheVariants.{Square, Round}
use Rattle.zint_words.specs.declared.drawing_options.TheConstants.{SHARES}
use Rattle.zint_settings.specs.declared.form.Form.{Form}
use Rattle.zint_settings.specs.declared.form.Form.TheVariants.{Grid}
use Rattle.zint_words.specs.declared.options.OptionName.{OptionName}
use Rattle.zint_words.specs.declared.options.OptionName.TheVariants as option
use Rattle.zint_words.specs.declared.options.Takes.{Takes}
use Rattle.zint_words.specs.declared.options.Takes.TheVariants.{Number}
use Rattle.zint_settings.specs.declared.symbology.Symbology.{Symbology}
use Rattle.zint_settings.specs.declared.symbology.Symbology.TheVariants.{Code128, Gs1Code128}

-- the symbology that is named, and Code 128 where none is
unfoldable pub symbology_of : Values → Symbology
symbology_of v = unwrap_or (option_and_then symbology_in (v option.Barcode)) Code128

-- the form that is named, and else the one that the ending of the file's name asks for
unfoldable pub output_form_of : Values → Form
output_form_of v =
    unwrap_or (option_and_then form_in (v option.Filetype)) (option_map_or form_by_ending (v option.Output) Grid)

-- what makes the data GS1 data, where the symbology carries such data: `--gs1`, `--gs1parens`, or a symbology that
-- carries no other
abbrev pub carries_gs1_alone : Symbology → Bool
carries_gs1_alone Gs1Code128 = true
carries_gs1_alone _ = false

-- the option that makes the data GS1 data, where one does
unfoldable pub gs1_source_of : Values → Option OptionName
gs1_source_of v = if not (suits option.Gs1 (symbology_of v)) then None
    else (if is_some (v option.Gs1) then Some option.Gs1
    else (if is_some (v option.Gs1parens) then Some option.Gs1parens
    else (if carries_gs1_alone (symbology_of v) then Some option.Barcode else None)))

-- the brackets of GS1 data: round ones where `--gs1parens` is given
abbrev pub brackets_by : (round : Bool) → Gs1Brackets
brackets_by true = Round
brackets_by false = Square

-- the brackets of the data, where it is GS1 data
unfoldable pub gs1_of : Values → Option Gs1Brackets
gs1_of v = option_map (λ source. brackets_by (is_some (v option.Gs1parens))) (gs1_source_of v)

-- the ECI number of the character set, where one is named
unfoldable pub eci_of : Values → Option ℕ
eci_of v = option_and_then character_set_in (v option.Eci)

-- the number that a text writes for an option which takes a number
abbrev pub number_taken : Takes → Text → Option ℕ
number_taken (Number low high) t = whole_number_in low high t
number_taken _ t = None

-- the number is one that such an option may have
abbrev pub IsWithin : Takes → ℕ → Type 0
IsWithin (Number low high) n = (low ≤ n) × (n ≤ high)
IsWithin _ n = Unit {0}

-- the number that the option was given, and another where it was given none
unfoldable pub given_number : Values → OptionName → ℕ → ℕ
given_number v n other = unwrap_or (option_and_then (number_taken (taken_by n)) (v n)) other

-- the share of check codewords in percent, by a level from 1 to 4, which is 2 where none is named
unfoldable pub share_of : Values → ℕ
share_of v = slice_index SHARES (given_number v option.Secure 2 - 1)

-- the version that is named, from 1 to the greatest one of the symbology
unfoldable pub symbol_version_of : Values → Option ℕ
symbol_version_of v = option_and_then (whole_number_in 1 (greatest_version (symbology_of v))) (v option.Vers)

-- how a picture is painted: at scale 1 and with no white space where nothing else is named
unfoldable pub paint_of : Values → Paint
paint_of v = record {
  scale = given_number v option.Scale 1;
  white = given_number v option.Whitesp 0;
  vwhite = given_number v option.Vwhitesp 0;
}

-- the options of a drawing, all together
unfoldable pub drawing_options_of : Values → DrawingOptions
drawing_options_of v = record {
  symbology = symbology_of v;
  form = output_form_of v;
  escapes = is_some (v option.Esc);
  binary = is_some (v option.Binary);
  gs1 = gs1_of v;
  eci = eci_of v;
  share = share_of v;
  version = symbol_version_of v;
  paint = paint_of v;
  height = given_number v option.Height 50;
}
