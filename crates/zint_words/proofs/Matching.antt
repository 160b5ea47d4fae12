-- What `clap` says of the words, at the one command.
use Rattle.std.proofs.Common.{◌≡◌, inl, inr, List, [], ◌∷◌, not, true, false, refl, ap, subst, rules}
use Rattle.clap.specs.Words.{App, HasKind, HasMatchesOf, IsAmong, Kinds, Text, fault_of, found_of, is_simple, is_simple_and_free, kind_of, rows_of}
use Rattle.clap.specs.Walk.{is_empty}
use Rattle.clap.specs.declared.error.Error.{Error}
use Rattle.clap.specs.declared.error.kind.ErrorKind.{ErrorKind}
use Rattle.clap.specs.declared.error.kind.ErrorKind.TheVariants as kind
use Rattle.clap.specs.declared.parser.matches.ArgMatches.{ArgMatches}
use Rattle.clap.proofs.OnLiterals.{clap_on_literals}
use Rattle.zint_words.specs.CommandLine.{is_refused, long_name, option_row, rule_for, short_name, taken_by, values_by, values_in, zint}

-- the command is one of which `clap` gives the matches and the kind of each refusal
pub simple_and_free : is_simple_and_free zint ≡ true
unfolding zint rule_for long_name short_name taken_by option_row clap_on_literals
simple_and_free = refl

pub simple : is_simple zint ≡ true
unfolding zint rule_for long_name short_name taken_by option_row clap_on_literals
simple = refl

-- the matches hold the values that the words give
pub values_read : (a : App) (words : List Text) (m : ArgMatches) → a ≡ zint → HasMatchesOf a words m
    → values_in (rows_of (found_of m)) ≡ values_by words
unfolding values_by
values_read a words m is_zint matches =
    let at_zint = subst (λ (x : App). HasMatchesOf x words m) is_zint matches in
    ap values_in (at_zint simple).0

-- words that are matched are not refused
pub not_refused : (a : App) (words : List Text) → a ≡ zint → (is_simple_and_free a ≡ true → fault_of a words ≡ []) → is_refused words ≡ false
unfolding is_refused
not_refused a words is_zint none =
    let at_zint = subst (λ (x : App). is_simple_and_free x ≡ true → fault_of x words ≡ []) is_zint none in
    ap (λ (kinds : Kinds). not (is_empty kinds)) (at_zint simple_and_free)

some_kind : (k : ErrorKind) (kinds : Kinds) → IsAmong k kinds → not (is_empty kinds) ≡ true
some_kind k [] among = absurd among
some_kind k (x ∷ xs) among = search rules

-- words that fail for another cause than memory are refused
pub refused : (a : App) (words : List Text) (e : Error) → a ≡ zint → (is_simple_and_free a ≡ true → HasKind (fault_of a words) e)
    → (kind_of e ≡ kind.OutOfMemory → ⊥) → is_refused words ≡ true
unfolding is_refused
refused a words e is_zint has_kind other =
    let at_zint = subst (λ (x : App). is_simple_and_free x ≡ true → HasKind (fault_of x words) e) is_zint has_kind in
    elim (at_zint simple_and_free) [ inl memory ↦ absurd (other memory) | inr among ↦ some_kind (kind_of e) (fault_of zint words) among ]
