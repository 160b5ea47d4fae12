-- Values with their wanted checks behind them have right checks.
use Rattle.std.proofs.Common.{◌≡◌, ℕ, ◌+◌, Bool, List, [], ◌∷◌, ◌++◌, length, take, drop, Option, None, Ok, refl, ap, ◌∙◌, arith, if◌then◌else◌, Some, eq-eqb}
use Rattle.std.proofs.lemmas.List.{length-append}
use Rattle.std.proofs.Math.Seq.{take-append_seam, drop-append_seam}
use Rattle.linear_reader.specs.declared.symbology.RowSymbology.{RowSymbology}
use Rattle.linear_reader.specs.declared.scan.ScanFault.{ScanFault}
use Rattle.linear_reader.specs.declared.scan.ScanFault.TheVariants.{BadCheck}
use Rattle.linear_reader.specs.Checks.{check_count, data_count, data_values, wanted_checks, first_wrong, right_checks, checks_of}

none_wrong : (place : ℕ) (checks : List ℕ) → first_wrong place checks checks ≡ None
unfolding first_wrong
none_wrong place [] = refl
none_wrong place (check ∷ checks) =
    ap (λ (b : Bool). if b then first_wrong (place + 1) checks checks else Some (BadCheck place check check)) (eq-eqb check check refl) ∙ none_wrong (place + 1) checks

count_is : (s : RowSymbology) (body checks : List ℕ) → length checks ≡ check_count s → data_count s (body ++ checks) ≡ length body
unfolding data_count
count_is s body checks is = omega (arith, length-append body checks)

pub data_is : (s : RowSymbology) (body checks : List ℕ) → length checks ≡ check_count s → data_values s (body ++ checks) ≡ body
unfolding data_values
data_is s body checks is = ap (λ (n : ℕ). take n (body ++ checks)) (count_is s body checks is) ∙ take-append_seam body checks

pub checks_right : (s : RowSymbology) (body checks : List ℕ) → length checks ≡ check_count s → wanted_checks s body ≡ checks → checks_of s (body ++ checks) ≡ Ok checks
unfolding checks_of
checks_right s body checks long wanted =
    let all = body ++ checks in
    ap (λ (n : ℕ). right_checks (first_wrong n (drop n all) (wanted_checks s (data_values s all))) (wanted_checks s (data_values s all))) (count_is s body checks long)
    ∙ ap (λ (vs : List ℕ). right_checks (first_wrong (length body) (drop (length body) all) (wanted_checks s vs)) (wanted_checks s vs)) (data_is s body checks long)
    ∙ ap (λ (vs : List ℕ). right_checks (first_wrong (length body) (drop (length body) all) vs) vs) wanted
    ∙ ap (λ (vs : List ℕ). right_checks (first_wrong (length body) vs checks) checks) (drop-append_seam body checks)
    ∙ ap (λ (f : Option ScanFault). right_checks f checks) (none_wrong (length body) checks)
