-- The command as its words are read: its options in the order of their table, each set at most once
-- to one text, or a flag, and nothing else.
use Rattle.std.specs.Prelude.{ℕ, Bool, false, not, List, [], map, codes, Option, Some, None, if◌then◌else◌, option_and_then, option_map, slice_index_or}
use Rattle.std.specs.Str.{bytes_eq}
use denote.Enum.Declared.{tag_of}
use Rattle.clap.specs.Words.{App, Row, Rule, Text, fault_of, first_of, matches_of, new_rule}
use Rattle.clap.specs.Simple.{new_shape}
use Rattle.clap.specs.Walk.{is_empty}
use Rattle.clap.specs.declared.builder.action.ArgAction.{ArgAction}
use Rattle.clap.specs.declared.builder.action.ArgAction.TheVariants.{Set, SetTrue}
use Rattle.zint_words.specs.contracts.options.OptionName.{the_type}
use Rattle.zint_words.specs.declared.options.OptionName.{OptionName}
use Rattle.zint_words.specs.declared.options.OptionName.TheVariants.{Barcode}
use Rattle.zint_words.specs.declared.options.Takes.{Takes}
use Rattle.zint_words.specs.declared.options.Takes.TheVariants.{Flag}
use Rattle.zint_words.specs.declared.options.TheConstants.{OPTIONS, OPTION_NAMES}
use Rattle.zint_settings.specs.declared.symbology.Symbology.{Symbology}

-- a row of the table: an option, its names, what it takes, and with which symbologies, data and other options it may be given
pub record OptionRow : Type 0 where
  pub option : OptionName
  pub long : Text
  pub short : Option ℕ
  pub takes : Takes
  pub suited : Option (List Symbology)
  pub is_for_gs1 : Bool
  pub company : Option (List OptionName)

-- the rows of the table, one for each option in the order of their variants
abbrev pub option_rows : List OptionRow
option_rows = map (λ row. record {
  option = row.0;
  long = row.1.now;
  short = row.2;
  takes = row.3;
  suited = option_map (λ s. s.now) row.4;
  is_for_gs1 = row.5;
  company = option_map (λ s. s.now) row.6;
}) OPTIONS.now

-- the row of an option
unfoldable pub option_row : OptionName → OptionRow
option_row n = slice_index_or option_rows (tag_of the_type n) (record {
  option = Barcode;
  long = [];
  short = None;
  takes = Flag;
  suited = None;
  is_for_gs1 = false;
  company = None;
})

-- the options, in the order of their table
abbrev pub option_names : List OptionName
option_names = OPTION_NAMES.now

-- the name after `--`
unfoldable pub long_name : OptionName → Text
long_name n = (option_row n).long

-- the letter after `-`
unfoldable pub short_name : OptionName → Option ℕ
short_name n = (option_row n).short

-- what the option takes
unfoldable pub taken_by : OptionName → Takes
taken_by n = (option_row n).takes

-- a flag is used alone, every other option is set to one text
abbrev pub action_for : Takes → ArgAction
action_for Flag = SetTrue
action_for _ = Set

-- the option as `clap` reads it, found by its names alone
unfoldable pub rule_for : OptionName → Rule
rule_for n = record (new_rule (long_name n)) {
  long = Some (long_name n);
  short = short_name n;
  action = Some (action_for (taken_by n));
}

-- the command `zint` with the options of these rules, and with no subcommands
abbrev pub app_with : List Rule → App
app_with rules = record { top = record (new_shape (codes "zint")) { rules = rules }; subs = [] }

-- the command
unfoldable pub zint : App
zint = app_with (map rule_for option_names)

-- the words, of which the first is the program's name, are none that the command takes
unfoldable pub is_refused : List Text → Bool
is_refused words = not (is_empty (fault_of zint words))

-- what each option was given: a text, or nothing; a flag that is on has the text `true`
abbrev pub Values : Type 0
Values = OptionName → Option Text

-- the text of an option, by the first text that was found for it; a flag that was not used has `false`
abbrev pub given_as : Takes → Option Text → Option Text
given_as Flag found = option_and_then (λ t. if bytes_eq t (codes "true") then Some t else None) found
given_as _ found = found

-- the values by the rows that the words made
unfoldable pub values_in : List Row → Values
values_in rows n = given_as (taken_by n) (first_of (long_name n) rows)

-- the values that the words give, where the command takes them
unfoldable pub values_by : List Text → Values
values_by words = values_in (matches_of zint words)
