-- What comes of a list of words: it is refused as a whole, it breaks a rule, or it gives settings.
use Rattle.std.specs.Prelude.{◌≡◌, Bool, true, List, if◌then◌else◌, string_bytes}
use Rattle.std.specs.Option.{option_map_or}
use Rattle.clap.specs.Words.{Text}
use Rattle.zint_words.specs.CommandLine.{Values, is_refused, values_by}
use Rattle.zint_words.specs.BrokenRule.{broken_text}
use Rattle.zint_words.specs.Rules.{first_broken}
use Rattle.zint_settings.specs.Settings.{Request}
use Rattle.zint_words.specs.Settings.{request_by}
use Rattle.zint_words.specs.declared.refusal.Refusal.{Refusal}
use Rattle.zint_words.specs.declared.refusal.Refusal.TheVariants as refusal

-- what comes of words: a refusal of all of them, the text of the rule that they break, or what they ask for
pub data Outcome : Type 0 where
  usage : Outcome
  bad_option : Text → Outcome
  settings : Request → Outcome

-- by the values of the options: the first broken rule, and else the settings
unfoldable pub outcome_by : Values → Outcome
outcome_by v = option_map_or (λ rule. bad_option (broken_text v rule)) (first_broken v) (settings (request_by v))

-- by the words, of which the first is the program's name
unfoldable pub outcome_of : List Text → Outcome
outcome_of words = if is_refused words then usage else outcome_by (values_by words)

-- the refusal is what comes of the words; want of memory may come at any words
abbrev pub IsRefusedBy : Outcome → Refusal → Type 0
IsRefusedBy outcome refusal.Usage = outcome ≡ usage
IsRefusedBy outcome (refusal.BadOption text) = outcome ≡ bad_option (string_bytes text)
IsRefusedBy outcome refusal.NoMemory = Unit {0}

-- the same, before the values are known
abbrev pub IsUnreadable : Bool → Refusal → Type 0
IsUnreadable refused refusal.Usage = refused ≡ true
IsUnreadable refused (refusal.BadOption text) = ⊥
IsUnreadable refused refusal.NoMemory = Unit {0}
