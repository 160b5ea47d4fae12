-- Adding the options of the table to the command in turn.
use Rattle.std.proofs.Common.{◌≡◌, ℕ, ◌+◌, ◌<◌, ◌++◌, List, [], ◌∷◌, length, map, take, get_or, ap, sym, ◌∙◌}
use Rattle.std.proofs.lemmas.List.{map-append, take_more}
use Rattle.clap.specs.Words.{App, Rule, with_rule}
use Rattle.zint_words.specs.CommandLine.{app_with, rule_for}
use Rattle.zint_words.specs.declared.options.OptionName.{OptionName}

-- the command with one more option of the list
pub one_more : (old new : App) (xs : List OptionName) (i : ℕ) (d : OptionName) (r : Rule) → i < length xs → old ≡ app_with (map rule_for (take i xs))
    → r ≡ rule_for (get_or xs i d) → new ≡ with_rule old r → new ≡ app_with (map rule_for (take (i + 1) xs))
one_more old new xs i d r below so_far is_rule added =
    let longer = ap (map rule_for) (take_more xs i d below) ∙ map-append rule_for (take i xs) (get_or xs i d ∷ []) in
    let with_old = ap (λ (a : App). with_rule a r) so_far in
    let with_next = ap (λ (x : Rule). app_with (map rule_for (take i xs) ++ x ∷ [])) is_rule in
    added ∙ with_old ∙ with_next ∙ ap app_with (sym longer)
