-- How many modules the characters of each table have.
use Rattle.std.proofs.Common.{◌≡◌, ℕ, ◌≤◌, inl, inr, true, ◌==◌, sum, length, List, [], ◌∷◌, ◌++◌, refl, arith}
use Rattle.std.proofs.lemmas.Bool.{agree_below, agree_below_at, cases_lt, eqb-true}
use Rattle.std.proofs.lemmas.List.{get_or_past}
use Rattle.std.proofs.lemmas.List.{length-append}
use Rattle.std.proofs.lemmas.List.Sums.{sum_by-cons, sum_by-append}
use Rattle.std.specs.List.{flat_map}
use Rattle.bar_base.proofs.StripeLaws.{sum-flat_map}
use Rattle.linear_codes.specs.declared.code39_table.TheConstants.{WIDTHS as WIDTHS39, STAR}
use Rattle.linear_codes.specs.declared.code93_table.TheConstants.{WIDTHS as WIDTHS93, START}
use Rattle.linear_codes.specs.Code39 as code39
use Rattle.linear_codes.specs.Code93 as code93

twelve : agree_below (λ value. sum (code39.widths39 value) == 12) (λ _. true) 44 ≡ true
unfolding code39.widths39
twelve = refl

pub sum_widths39 : (value : ℕ) → value ≤ 43 → sum (code39.widths39 value) ≡ 12
sum_widths39 value small = eqb-true (sum (code39.widths39 value)) 12 (agree_below_at (λ v. sum (code39.widths39 v) == 12) (λ _. true) 44 value twelve (omega arith))

nine : agree_below (λ value. sum (code93.widths93 value) == 9) (λ _. true) 48 ≡ true
unfolding code93.widths93
nine = refl

pub sum_widths93 : (value : ℕ) → value ≤ 47 → sum (code93.widths93 value) ≡ 9
sum_widths93 value small = eqb-true (sum (code93.widths93 value)) 9 (agree_below_at (λ v. sum (code93.widths93 v) == 9) (λ _. true) 48 value nine (omega arith))

-- A value past the table has no widths.
few39 : (value : ℕ) → sum (code39.widths39 value) ≤ 12
unfolding code39.widths39
few39 value =
    elim (cases_lt value 44) [
      | inl below ↦ omega (arith, sum_widths39 value (omega arith))
      | inr past ↦ let none = get_or_past WIDTHS39 value [] past in rw none (omega arith)
    ]

-- The symbols of Code 39 have few modules.
pub symbol39_some : (values : List ℕ) → 1 ≤ sum (code39.symbol_widths39 values)
unfolding code39.symbol_widths39
symbol39_some values =
    let star = sum_widths39 STAR (omega arith) in
    let joined = sum_by-append (λ (n : ℕ). n) (code39.widths39 STAR) (flat_map (λ value. 1 ∷ code39.widths39 value) (values ++ STAR ∷ [])) in
    omega arith

pub symbol39_few : (values : List ℕ) → length values ≤ 200 → sum (code39.symbol_widths39 values) ≤ 16384
unfolding code39.symbol_widths39
symbol39_few values short =
    let star = sum_widths39 STAR (omega arith) in
    let joined = sum_by-append (λ (n : ℕ). n) (code39.widths39 STAR) (flat_map (λ value. 1 ∷ code39.widths39 value) (values ++ STAR ∷ [])) in
    let rest =
    sum-flat_map (λ value. 1 ∷ code39.widths39 value) 13
    (λ value. let first = sum_by-cons (λ (n : ℕ). n) 1 (code39.widths39 value) in let few = few39 value in omega arith)
    (values ++ STAR ∷ []) in
    let long = length-append values (STAR ∷ []) in
    omega arith

few93 : (value : ℕ) → sum (code93.widths93 value) ≤ 9
unfolding code93.widths93
few93 value =
    elim (cases_lt value 48) [
      | inl below ↦ omega (arith, sum_widths93 value (omega arith))
      | inr past ↦ let none = get_or_past WIDTHS93 value [] past in rw none (omega arith)
    ]

-- The symbols of Code 93 have few modules.
pub symbol93_some : (values : List ℕ) → 1 ≤ sum (code93.symbol_widths93 values)
unfolding code93.symbol_widths93
symbol93_some values =
    let joined = sum_by-append (λ (n : ℕ). n) (flat_map code93.widths93 (START ∷ values ++ START ∷ [])) (1 ∷ []) in
    omega arith

pub symbol93_few : (values : List ℕ) → length values ≤ 300 → sum (code93.symbol_widths93 values) ≤ 16384
unfolding code93.symbol_widths93
symbol93_few values short =
    let joined = sum_by-append (λ (n : ℕ). n) (flat_map code93.widths93 (START ∷ values ++ START ∷ [])) (1 ∷ []) in
    let rest = sum-flat_map code93.widths93 9 few93 (START ∷ values ++ START ∷ []) in
    let long = length-append (START ∷ values) (START ∷ []) in
    omega arith
