-- What comes of the words, by what the steps of the reading found.
use Rattle.std.proofs.Common.{◌≡◌, List, Bool, false, Option, Some, None, ap, sym, ◌∙◌, if◌then◌else◌}
use Rattle.std.specs.Option.{option_map_or}
use Rattle.clap.specs.Words.{Text}
use Rattle.zint_words.specs.CommandLine.{Values, is_refused, values_by}
use Rattle.zint_words.specs.BrokenRule.{broken_text}
use Rattle.zint_words.specs.Outcome.{IsRefusedBy, IsUnreadable, bad_option, outcome_by, outcome_of, settings, usage}
use Rattle.zint_words.specs.Rules.{first_broken}
use Rattle.zint_settings.specs.Settings.{Request}
use Rattle.zint_words.specs.Settings.{request_by}
use Rattle.zint_words.specs.declared.refusal.Refusal.{Refusal}
use Rattle.zint_words.specs.declared.refusal.Refusal.TheVariants as refusal
use Rattle.zint_words.specs.declared.rules.Rule.{Rule}

-- words that are refused as a whole are `usage`
pub unreadable_comes : (words : List Text) (e : Refusal) → IsUnreadable (is_refused words) e → IsRefusedBy (outcome_of words) e
unfolding outcome_of
unreadable_comes words refusal.Usage refused = ap (λ (b : Bool). if b then usage else outcome_by (values_by words)) refused
unreadable_comes words (refusal.BadOption text) never = absurd never
unreadable_comes words refusal.NoMemory free = tt

-- words that are read come to what their values come to
pub values_decide : (words : List Text) (v : Values) → is_refused words ≡ false → v ≡ values_by words → outcome_by v ≡ outcome_of words
unfolding outcome_of
values_decide words v taken given =
    ap outcome_by given ∙ sym (ap (λ (b : Bool). if b then usage else outcome_by (values_by words)) taken)

-- a broken rule is `bad_option` with its text
pub broken_comes : (v : Values) (rule : Rule) (text : Text) → Some rule ≡ first_broken v → text ≡ broken_text v rule → outcome_by v ≡ bad_option text
unfolding outcome_by
broken_comes v rule text broken is_text =
    ap (λ (o : Option Rule). option_map_or (λ r. bad_option (broken_text v r)) o (settings (request_by v))) (sym broken) ∙ ap bad_option (sym is_text)

-- where no rule is broken, the settings are what the values ask for
pub settings_come : (v : Values) (request : Request) → None ≡ first_broken v → request ≡ request_by v → outcome_by v ≡ settings request
unfolding outcome_by
settings_come v request kept is_request =
    ap (λ (o : Option Rule). option_map_or (λ r. bad_option (broken_text v r)) o (settings (request_by v))) (sym kept) ∙ ap settings (sym is_request)
