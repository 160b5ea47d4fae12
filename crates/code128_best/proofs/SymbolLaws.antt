-- The symbol: the check value, and how many modules the symbol has.
use Rattle.std.proofs.Common.{◌≡◌, ℕ, suc, ◌+◌, ◌*◌, ◌<◌, ◌≤◌, ◌%◌, inl, inr, true, ◌==◌, ◌&&◌, List, [], ◌∷◌, ◌++◌, length, drop, slice_index, sum, map, position, unwrap_or, refl, sym, ap, ◌∙◌, arith}
use Rattle.std.specs.List.{flat_map}
use Rattle.std.proofs.lemmas.Bool.{agree_below, agree_below_at, and_parts, eqb-true, cases_lt}
use Rattle.std.proofs.lemmas.List.{get_or_past, length-append, drop_all}
use Rattle.std.proofs.lemmas.List.Sums.{sum_by-append}
use Rattle.bar_base.specs.Bits.{number_after}
use Rattle.bar_base.specs.Stripes.{stripes}
use Rattle.std.proofs.Math.Seq.{drop-cons}
use Rattle.bar_base.proofs.StripeLaws.{sum-flat_map}
use Rattle.code128_best.specs.declared.widths.TheConstants.{WIDTHS, STOP}
use Rattle.code128_best.specs.Symbol.{place_weighted, check128, widths128, pattern128, bar_modules, stop_widths128, symbol_widths128, HasCharacterShape}

-- the check value
pub weighted_more : (values : List ℕ) (place : ℕ) → place < length values
    → place_weighted place (drop place values) ≡ place * slice_index values place + place_weighted (place + 1) (drop (place + 1) values)
unfolding place_weighted
weighted_more values place inside =
    let e : place + 1 ≡ suc place = omega arith in
    ap (place_weighted place) (drop-cons values place 0 inside ∙ ap (λ (k : ℕ). slice_index values place ∷ drop k values) (sym e))

pub weighted_end : (values : List ℕ) (place : ℕ) → length values ≤ place → place_weighted place (drop place values) ≡ 0
unfolding place_weighted
weighted_end values place past = ap (place_weighted place) (drop_all place values past)

pub check_is : (values : List ℕ) → 1 ≤ length values → check128 values ≡ (slice_index values 0 + place_weighted 0 values) % 103
unfolding check128 place_weighted
check_is [] some = absurd (omega arith)
check_is (start ∷ values) some = ap (λ (n : ℕ). (start + n) % 103) (let e : place_weighted 1 values ≡ 0 * start + place_weighted 1 values = omega arith in e)

pub weight_few : (place value : ℕ) → place < 16384 → value ≤ 105 → place * value ≤ 1720320
weight_few place value few small = grind arith

-- each value has 11 modules
eleven : agree_below (λ value. sum (widths128 value) == 11) (λ _. true) 106 ≡ true
unfolding widths128
eleven = refl

-- and its bars have an even number of them
shapes : agree_below (λ value. length (widths128 value) == 6 && bar_modules (widths128 value) % 2 == 0) (λ _. true) 106 ≡ true
unfolding widths128 bar_modules
shapes = refl

pub sum_widths : (value : ℕ) → value ≤ 105 → sum (widths128 value) ≡ 11
sum_widths value small = eqb-true (sum (widths128 value)) 11 (agree_below_at (λ v. sum (widths128 v) == 11) (λ _. true) 106 value eleven (omega arith))

pub shaped : (value : ℕ) → value ≤ 105 → HasCharacterShape (widths128 value)
shaped value small =
    let parts = and_parts (length (widths128 value) == 6) _ (agree_below_at (λ v. length (widths128 v) == 6 && bar_modules (widths128 v) % 2 == 0) (λ _. true) 106 value shapes (omega arith)) in
    record { six = eqb-true (length (widths128 value)) 6 parts.0; eleven = sum_widths value small; even = eqb-true (bar_modules (widths128 value) % 2) 0 parts.1 }

-- no two patterns are alike: each is found again at its own place
place_of : ℕ → ℕ
place_of number = unwrap_or (position (λ other. other == number) (map (λ widths. number_after 0 (stripes true widths)) WIDTHS)) 0

found : agree_below (λ k. place_of (pattern128 k) == k) (λ _. true) 106 ≡ true
unfolding place_of pattern128 widths128 number_after stripes
found = refl

pub only : (value other : ℕ) → value ≤ 105 → other ≤ 105 → pattern128 other ≡ pattern128 value → other ≡ value
only value other small_value small_other is =
    let at_value = eqb-true (place_of (pattern128 value)) value (agree_below_at (λ k. place_of (pattern128 k) == k) (λ _. true) 106 value found (omega arith)) in
    let at_other = eqb-true (place_of (pattern128 other)) other (agree_below_at (λ k. place_of (pattern128 k) == k) (λ _. true) 106 other found (omega arith)) in
    sym at_other ∙ ap place_of is ∙ at_value

few : (value : ℕ) → sum (widths128 value) ≤ 11
unfolding widths128
few value =
    elim (cases_lt value 106) [
      | inl below ↦ omega (arith, sum_widths value (omega arith))
      | inr past ↦ let none = get_or_past WIDTHS value [] past in rw none (omega arith)
    ]

pub symbol_some : (values : List ℕ) → 1 ≤ sum (symbol_widths128 values)
unfolding symbol_widths128 stop_widths128
symbol_some values = let joined = sum_by-append (λ (n : ℕ). n) (flat_map widths128 (values ++ check128 values ∷ [])) STOP in omega arith

pub symbol_few : (values : List ℕ) → length values ≤ 769 → sum (symbol_widths128 values) ≤ 16384
unfolding symbol_widths128 stop_widths128
symbol_few values short =
    let joined = sum_by-append (λ (n : ℕ). n) (flat_map widths128 (values ++ check128 values ∷ [])) STOP in
    let rest = sum-flat_map widths128 11 few (values ++ check128 values ∷ []) in
    let long = length-append values (check128 values ∷ []) in
    omega arith
