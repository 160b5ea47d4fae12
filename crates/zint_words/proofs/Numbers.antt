-- A text of 1 to 10 digits is the number that std's `parse` reads.
use Rattle.std.proofs.Common.{◌≡◌, ℕ, ◌<◌, ◌≤◌, ◌^◌, List, true, length, rules, arith, Result, Ok}
use Rattle.std.specs.Char.{is_ascii_digit}
use Rattle.std.specs.List.{list_all}
use Rattle.std.specs.Str.Parse.{ParsesUnsigned, digits_value, digits_value_after}
use Rattle.std.proofs.lemmas.Bool.{leb-true, ltb-true}
use Rattle.std.proofs.lemmas.Str.Parse.{IsNumeralModel, digits_value_short, numerals_by_fold, parse_gives}
use Rattle.clap.proofs.WalkLemmas.{both}
use Rattle.zint_words.specs.Numbers.{is_whole_number}

digits : IsNumeralModel (λ ds. list_all is_ascii_digit ds ≡ true) (digits_value 10)
digits = numerals_by_fold _ (search rules) (digits_value_after 10) (search rules)

pub whole_number_read : {E : Type 0} (t : List ℕ) (r : Result ℕ E) → ParsesUnsigned 64 10 t r → is_whole_number t ≡ true → r ≡ Ok (digits_value 10 t)
whole_number_read t r parses is_whole =
    let parts = both _ _ is_whole in
    let lengths = both _ _ parts.0 in
    let some : 0 < length t = ltb-true 0 (length t) lengths.0 in
    let few : length t ≤ 10 = leb-true (length t) 10 lengths.1 in
    let below : digits_value 10 t < 10 ^ 10 = digits_value_short digits t 10 parts.1 few in
    parse_gives digits 64 t r parses parts.1 some (omega arith)
