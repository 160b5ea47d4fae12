-- The values of a row: how many there are, and how large.
use Rattle.std.proofs.Common.{◌≡◌, ℕ, ◌+◌, ◌-◌, ◌*◌, ◌/◌, ◌%◌, ◌<◌, ◌≤◌, Bool, All, List, [], ◌∷◌, length, refl, arith}
use Rattle.std.specs.List.{flat_map}
use Rattle.std.proofs.lemmas.List.{length-take-le}
use Rattle.std.proofs.lemmas.List.Elements.{All-take, All-cons, All-nil, All-head, All-tail}
use Rattle.linear_reader.specs.declared.symbology.RowSymbology.{RowSymbology}
use Rattle.linear_reader.specs.declared.symbology.RowSymbology.TheVariants.{Code39, Code39Full, Code93, Code128, Itf14}
use Rattle.linear_reader.specs.Patterns.{start_modules, pattern_count}
use Rattle.linear_reader.specs.Row.{least_patterns, most_patterns, two_digits, listed_values, value_bound}
use Rattle.linear_reader.specs.Checks.{check_count, data_count, data_values}

-- the digits of pairs
digits_small : (values : List ℕ) → All (λ value. value < 100) values → All (λ digit. digit < 10) (flat_map two_digits values)
digits_small [] all = All-nil (λ digit. digit < 10)
digits_small (value ∷ values) all =
    let first : value < 100 = All-head (λ (v : ℕ). v < 100) value values all in
    All-cons (λ digit. digit < 10) (value / 10) (value % 10 ∷ flat_map two_digits values) (omega arith)
    (All-cons (λ digit. digit < 10) (value % 10) (flat_map two_digits values) (omega arith) (digits_small values (All-tail (λ (v : ℕ). v < 100) value values all)))

digits_long : (values : List ℕ) → length (flat_map two_digits values) ≡ 2 * length values
digits_long [] = refl
digits_long (value ∷ values) = let rest = digits_long values in omega arith

pub weaker : (low high : ℕ) → low ≤ high → (values : List ℕ) → All (λ value. value < low) values → All (λ value. value < high) values
weaker low high less [] all = All-nil (λ value. value < high)
weaker low high less (value ∷ values) all =
    let first : value < low = All-head (λ (v : ℕ). v < low) value values all in
    All-cons (λ value. value < high) value values (omega arith) (weaker low high less values (All-tail (λ (v : ℕ). v < low) value values all))

pub listed_small : (s : RowSymbology) (start : ℕ) (values : List ℕ) → start < 106 → All (λ value. value < pattern_count s) values
    → All (λ value. value < value_bound s) (listed_values s start values)
unfolding pattern_count value_bound listed_values
listed_small Code39 start values small all = all
listed_small Code39Full start values small all = all
listed_small Code93 start values small all = all
listed_small Code128 start values small all = All-cons (λ value. value < 106) start values small all
listed_small Itf14 start values small all = digits_small values all

pub listed_few : (s : RowSymbology) (start : ℕ) (values : List ℕ) (modules : List Bool) → length values + start_modules s ≤ length modules
    → length values ≤ most_patterns s modules → length modules ≤ 16384 → length (listed_values s start values) ≤ 16384
unfolding start_modules most_patterns listed_values
listed_few Code39 start values modules begun most few = omega arith
listed_few Code39Full start values modules begun most few = omega arith
listed_few Code93 start values modules begun most few = omega arith
listed_few Code128 start values modules begun most few = omega arith
listed_few Itf14 start values modules begun most few = omega (arith, digits_long values)

pub listed_some : (s : RowSymbology) (start : ℕ) (values : List ℕ) → least_patterns s ≤ length values → s ≡ Code128 → 2 ≤ length (listed_values s start values)
unfolding least_patterns listed_values
listed_some Code39 start values enough is = absurd (cc)
listed_some Code39Full start values enough is = absurd (cc)
listed_some Code93 start values enough is = absurd (cc)
listed_some Code128 start values enough is = omega arith
listed_some Itf14 start values enough is = absurd (cc)

-- the values before the checks
pub data_small : (s : RowSymbology) (bound : ℕ) (values : List ℕ) → All (λ value. value < bound) values → All (λ value. value < bound) (data_values s values)
unfolding data_values
data_small s bound values all = All-take (λ value. value < bound) (data_count s values) values all

pub data_some : (s : RowSymbology) (values : List ℕ) → 2 ≤ length values → s ≡ Code128 → 1 ≤ length (data_values s values)
unfolding data_values data_count check_count
data_some Code39 values some is = absurd (cc)
data_some Code39Full values some is = absurd (cc)
data_some Code93 values some is = absurd (cc)
data_some Code128 values some is = let long = length-take-le (length values - 1) values (omega arith) in omega arith
data_some Itf14 values some is = absurd (cc)
