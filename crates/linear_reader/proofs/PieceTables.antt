-- The patterns of each symbology as pieces of modules, by tests that compute over the tables.
use Rattle.std.proofs.Common.{◌≡◌, ℕ, ◌+◌, ◌/◌, ◌%◌, ◌==◌, ◌<◌, Bool, true, false, not, All, List, [], ◌∷◌, length, map, sum, position, unwrap_or, refl, ap, ◌∙◌, arith}
use Rattle.std.specs.List.{range_with_len}
use Rattle.std.proofs.lemmas.Bool.{agree_below, agree_below_at, eqb-true}
use Rattle.std.proofs.lemmas.List.Elements.{All-head, All-tail, All-cons, All-nil}
use Rattle.std.proofs.lemmas.List.Sums.{sum_by-cons}
use Rattle.bar_base.specs.Bits.{number_after}
use Rattle.bar_base.specs.Stripes.{stripes}
use Rattle.bar_base.proofs.StripeLaws.{length-stripes}
use Rattle.code128_best.specs.Symbol.{widths128, pattern128}
use Rattle.code128_best.proofs.SymbolLaws as symbol
use Rattle.linear_codes.specs.Code39.{widths39, pattern39_of}
use Rattle.linear_codes.specs.Code93.{widths93, pattern93_of}
use Rattle.linear_codes.specs.Itf14.{digit_elements, element_width, in_turn, pair_pattern_of}
use Rattle.linear_codes.proofs.TableFacts.{sum_widths39, sum_widths93}
use Rattle.linear_codes.proofs.TableLaws.{only, only39, only93}
use Rattle.linear_reader.specs.declared.symbology.RowSymbology.TheVariants.{Code39, Code39Full, Code93, Code128, Itf14}
use Rattle.linear_reader.specs.Patterns.{pattern_modules, pattern_count, value_pattern}
use Rattle.linear_reader.proofs.DrawnRows.{ArePieces}
use Rattle.linear_reader.proofs.StripePieces.{after}

all_same : (P Q : ℕ → Type 0) → ((value : ℕ) → P value → Q value) → (values : List ℕ) → All P values → All Q values
all_same P Q each [] all = All-nil Q
all_same P Q each (value ∷ values) all = All-cons Q value values (each value (All-head P value values all)) (all_same P Q each values (All-tail P value values all))

-- Code 128
abbrev pub piece128 : (value : ℕ) → List Bool
piece128 value = stripes true (widths128 value)

even128_test : agree_below (λ value. after true (widths128 value)) (λ _. true) 106 ≡ true
unfolding after widths128
even128_test = refl

pub even128 : (value : ℕ) → value < 106 → after true (widths128 value) ≡ true
even128 value small = agree_below_at (λ v. after true (widths128 v)) (λ _. true) 106 value even128_test small

pub all_even128 : (values : List ℕ) → All (λ value. value < 106) values → All (λ value. after true (widths128 value) ≡ true) values
all_even128 values small = all_same (λ value. value < 106) (λ value. after true (widths128 value) ≡ true) even128 values small

pub long128 : (value : ℕ) → value < 106 → length (piece128 value) ≡ 11
long128 value small = length-stripes true (widths128 value) ∙ symbol.sum_widths value (omega arith)

pub pieces128 : ArePieces Code128 piece128
unfolding pattern_modules pattern_count value_pattern pattern128
pieces128 = record {
  some = omega arith;
  long = long128;
  number = λ value small. refl;
  only = λ value other small small_other is. symbol.only value other (omega arith) (omega arith) is;
}

-- Code 39, a light module in front of each pattern
abbrev pub gap39 : (value : ℕ) → List ℕ
gap39 value = 1 ∷ widths39 value

abbrev pub piece39 : (value : ℕ) → List Bool
piece39 value = stripes false (gap39 value)

even39_test : agree_below (λ value. not (after false (1 ∷ widths39 value))) (λ _. true) 44 ≡ true
unfolding after widths39
even39_test = refl

light : (b : Bool) → not b ≡ true → b ≡ false
light true is = absurd (cc)
light false is = refl

pub even39 : (value : ℕ) → value < 44 → after false (gap39 value) ≡ false
even39 value small = light (after false (gap39 value)) (agree_below_at (λ v. not (after false (1 ∷ widths39 v))) (λ _. true) 44 value even39_test small)

pub all_even39 : (values : List ℕ) → All (λ value. value < 43) values → All (λ value. after false (gap39 value) ≡ false) values
all_even39 values small = all_same (λ value. value < 43) (λ value. after false (gap39 value) ≡ false) (λ value below. even39 value (omega arith)) values small

number39 : (value : ℕ) → number_after 0 (piece39 value) ≡ pattern39_of value
unfolding pattern39_of stripes number_after
number39 value = refl

long39 : (value : ℕ) → value < 43 → length (piece39 value) ≡ 13
long39 value small = length-stripes false (gap39 value) ∙ sum_by-cons (λ (n : ℕ). n) 1 (widths39 value) ∙ ap (λ (n : ℕ). 1 + n) (sum_widths39 value (omega arith))

pub pieces39 : ArePieces Code39 piece39
unfolding pattern_modules pattern_count value_pattern
pieces39 = record {
  some = omega arith;
  long = long39;
  number = λ value small. number39 value;
  only = λ value other small small_other is. only39 value other (omega arith) (omega arith) is;
}

pub pieces39_full : ArePieces Code39Full piece39
unfolding pattern_modules pattern_count value_pattern
pieces39_full = record {
  some = omega arith;
  long = long39;
  number = λ value small. number39 value;
  only = λ value other small small_other is. only39 value other (omega arith) (omega arith) is;
}

-- Code 93
abbrev pub piece93 : (value : ℕ) → List Bool
piece93 value = stripes true (widths93 value)

even93_test : agree_below (λ value. after true (widths93 value)) (λ _. true) 48 ≡ true
unfolding after widths93
even93_test = refl

pub even93 : (value : ℕ) → value < 48 → after true (widths93 value) ≡ true
even93 value small = agree_below_at (λ v. after true (widths93 v)) (λ _. true) 48 value even93_test small

pub all_even93 : (values : List ℕ) → All (λ value. value < 48) values → All (λ value. after true (widths93 value) ≡ true) values
all_even93 values small = all_same (λ value. value < 48) (λ value. after true (widths93 value) ≡ true) even93 values small

pub pieces93 : ArePieces Code93 piece93
unfolding pattern_modules pattern_count value_pattern pattern93_of
pieces93 = record {
  some = omega arith;
  long = λ value small. length-stripes true (widths93 value) ∙ sum_widths93 value (omega arith);
  number = λ value small. refl;
  only = λ value other small small_other is. only93 value other (omega arith) (omega arith) is;
}

-- ITF-14, two digits a pattern
abbrev pub widths_pair : (pair : ℕ) → List ℕ
widths_pair pair = map element_width (in_turn (digit_elements (pair / 10)) (digit_elements (pair % 10)))

abbrev pub piece_pair : (pair : ℕ) → List Bool
piece_pair pair = stripes true (widths_pair pair)

even_pair_test : agree_below (λ pair. after true (widths_pair pair)) (λ _. true) 100 ≡ true
unfolding after in_turn digit_elements
even_pair_test = refl

pub even_pair : (pair : ℕ) → pair < 100 → after true (widths_pair pair) ≡ true
even_pair pair small = agree_below_at (λ p. after true (widths_pair p)) (λ _. true) 100 pair even_pair_test small

eighteen_test : agree_below (λ pair. sum (widths_pair pair) == 18) (λ _. true) 100 ≡ true
unfolding in_turn digit_elements
eighteen_test = refl

abbrev pair_pattern : ℕ → ℕ
pair_pattern pair = pair_pattern_of (pair / 10) (pair % 10)

place_pair : ℕ → ℕ
place_pair number = unwrap_or (position (λ other. other == number) (map pair_pattern (range_with_len 0 100))) 0

found_pair : agree_below (λ pair. place_pair (pair_pattern pair) == pair) (λ _. true) 100 ≡ true
unfolding place_pair pair_pattern_of number_after stripes in_turn digit_elements
found_pair = refl

pub pieces_pair : ArePieces Itf14 piece_pair
unfolding pattern_modules pattern_count value_pattern pair_pattern_of
pieces_pair = record {
  some = omega arith;
  long = λ pair small. length-stripes true (widths_pair pair) ∙ eqb-true (sum (widths_pair pair)) 18 (agree_below_at (λ p. sum (widths_pair p) == 18) (λ _. true) 100 pair eighteen_test small);
  number = λ pair small. refl;
  only = λ pair other small small_other is. only pair_pattern place_pair 100 found_pair pair other small small_other is;
}

pub all_even_pair : (pairs : List ℕ) → All (λ pair. pair < 100) pairs → All (λ pair. after true (widths_pair pair) ≡ true) pairs
all_even_pair pairs small = all_same (λ pair. pair < 100) (λ pair. after true (widths_pair pair) ≡ true) even_pair pairs small
