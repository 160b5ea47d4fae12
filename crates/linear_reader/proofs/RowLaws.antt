-- The modules of a row: without light ones in front, as a number, and pattern after pattern.
use Rattle.std.proofs.Common.{◌≡◌, ℕ, zero, suc, ◌+◌, ◌-◌, ◌*◌, ◌^◌, ◌<◌, ◌≤◌, Bool, true, false, if◌then◌else◌, List, [], ◌∷◌, ◌++◌, length, drop, get_or, nat_le, Option, Some, None, Result, Ok, Err, refl, sym, ap, ◌∙◌, arith, append_assoc}
use Rattle.std.proofs.Math.Seq.{drop-cons}
use Rattle.std.proofs.lemmas.List.{drop_all, append-nil}
use Rattle.std.proofs.lemmas.Bool.{leb-true}
use Rattle.std.proofs.lemmas.Nat.{pow-add}
use Rattle.std.proofs.Math.Nat.{pow-le-pow_right}
use mir.Val.{bool_byte}
use Rattle.bar_base.specs.Bits.{number_after}
use Rattle.bar_base.proofs.StripeLaws.{bit_is}
use Rattle.linear_reader.specs.declared.symbology.RowSymbology.{RowSymbology}
use Rattle.linear_reader.specs.declared.scan.ScanFault.{ScanFault}
use Rattle.linear_reader.specs.declared.scan.ScanFault.TheVariants.{BadPattern}
use Rattle.linear_reader.specs.Patterns.{pattern_modules, value_in_front}
use Rattle.linear_reader.specs.Row.{from_dark, is_end, is_proper_end, least_patterns, values_and_more, value_and_more, values_from}

pub here : (xs : List Bool) (i : ℕ) → i < length xs → drop i xs ≡ get_or xs i false ∷ drop (i + 1) xs
here xs i inside = let e : i + 1 ≡ suc i = omega arith in drop-cons xs i false inside ∙ ap (λ (k : ℕ). get_or xs i false ∷ drop k xs) (sym e)

-- light modules in front are left out
dark_here : (dark : Bool) (xs : List Bool) (b : Bool) → dark ≡ b → from_dark (dark ∷ xs) ≡ (if b then dark ∷ xs else from_dark xs)
unfolding from_dark
dark_here dark xs b is = ap (λ (t : Bool). if t then dark ∷ xs else from_dark xs) is

pub light_more : (xs all : List Bool) (i : ℕ) → i < length xs → get_or xs i false ≡ false → from_dark (drop i xs) ≡ all → from_dark (drop (i + 1) xs) ≡ all
light_more xs all i inside light is = sym (dark_here (get_or xs i false) (drop (i + 1) xs) false light) ∙ ap from_dark (sym (here xs i inside)) ∙ is

pub dark_found : (xs all : List Bool) (i : ℕ) → i < length xs → get_or xs i false ≡ true → from_dark (drop i xs) ≡ all → drop i xs ≡ all
dark_found xs all i inside dark is =
    here xs i inside ∙ sym (dark_here (get_or xs i false) (drop (i + 1) xs) true dark) ∙ ap from_dark (sym (here xs i inside)) ∙ is

pub all_light : (xs all : List Bool) (i : ℕ) → length xs ≤ i → from_dark (drop i xs) ≡ all → drop (length xs) xs ≡ all
unfolding from_dark
all_light xs all i past is = drop_all (length xs) xs (omega arith) ∙ ap from_dark (sym (drop_all i xs past)) ∙ is

-- one digit more
pub digit_more : (number new all : ℕ) (xs : List Bool) (i : ℕ) → i < length xs → number_after number (drop i xs) ≡ all
    → new ≡ bool_byte (get_or xs i false) → number_after (number * 2 + new) (drop (i + 1) xs) ≡ all
unfolding number_after
digit_more number new all xs i inside is bit =
    ap (λ (n : ℕ). number_after (number * 2 + n) (drop (i + 1) xs)) (bit ∙ bit_is (get_or xs i false)) ∙ ap (number_after number) (sym (here xs i inside)) ∙ is

pub digit_end : (number all : ℕ) (xs : List Bool) (i : ℕ) → length xs ≤ i → number_after number (drop i xs) ≡ all → number ≡ all
unfolding number_after
digit_end number all xs i past is = ap (number_after number) (sym (drop_all i xs past)) ∙ is

pub power_more : (i : ℕ) → 2 ^ (i + 1) ≡ 2 ^ i * 2
power_more i = pow-add 2 i 1

pub power_small : (i : ℕ) → i < 18 → 2 ^ i ≤ 131072
power_small i small = pow-le-pow_right {n = 2} (omega arith) {i = i} {j = 17} (omega arith)

-- values in front of values in front of others
pub values_joined : (front back : List ℕ) (more : Result (List ℕ) ScanFault) → values_and_more (front ++ back) more ≡ values_and_more front (values_and_more back more)
values_joined front back (Ok values) = ap Ok (append_assoc front back values)
values_joined front back (Err fault) = refl

-- the three ways on from a place
pub ended : (s : RowSymbology) (left done place : ℕ) (modules : List Bool) → is_proper_end s done modules ≡ true → values_from s left done place modules ≡ Ok []
unfolding values_from
ended s zero done place modules is = ap (λ (t : Bool). if t then Ok [] else Err (BadPattern place)) is
ended s (suc left) done place modules is =
    ap (λ (t : Bool). if t then Ok [] else value_and_more (value_in_front s modules) place (values_from s left (done + 1) (place + pattern_modules s) (drop (pattern_modules s) modules))) is

none_left : (s : RowSymbology) (done place : ℕ) (modules : List Bool) → is_proper_end s done modules ≡ false → values_from s 0 done place modules ≡ Err (BadPattern place)
unfolding values_from
none_left s done place modules is = ap (λ (t : Bool). if t then Ok [] else Err (BadPattern place)) is

pub onward : (s : RowSymbology) (left done place : ℕ) (modules : List Bool) (value : Option ℕ) → is_proper_end s done modules ≡ false → value_in_front s modules ≡ value
    → values_from s (suc left) done place modules ≡ value_and_more value place (values_from s left (done + 1) (place + pattern_modules s) (drop (pattern_modules s) modules))
unfolding values_from
onward s left done place modules value is found =
    let rest = values_from s left (done + 1) (place + pattern_modules s) (drop (pattern_modules s) modules) in
    ap (λ (t : Bool). if t then Ok [] else value_and_more (value_in_front s modules) place rest) is ∙ ap (λ (v : Option ℕ). value_and_more v place rest) found

pub values_ended : (s : RowSymbology) (front : List ℕ) (left done place : ℕ) (modules : List Bool) (all : Result (List ℕ) ScanFault) → is_proper_end s done modules ≡ true
    → values_and_more front (values_from s left done place modules) ≡ all → all ≡ Ok front
values_ended s front left done place modules all is rest =
    sym rest ∙ ap (values_and_more front) (ended s left done place modules is) ∙ ap Ok (append-nil front)

pub values_full : (s : RowSymbology) (front : List ℕ) (left done place : ℕ) (modules : List Bool) (all : Result (List ℕ) ScanFault) → is_proper_end s done modules ≡ false → left ≡ 0
    → values_and_more front (values_from s left done place modules) ≡ all → all ≡ Err (BadPattern place)
values_full s front left done place modules all is none rest =
    sym rest ∙ ap (λ (n : ℕ). values_and_more front (values_from s n done place modules)) none ∙ ap (values_and_more front) (none_left s done place modules is)

pub values_stop : (s : RowSymbology) (front : List ℕ) (left done place : ℕ) (modules : List Bool) (all : Result (List ℕ) ScanFault) → is_proper_end s done modules ≡ false → 1 ≤ left
    → value_in_front s modules ≡ None → values_and_more front (values_from s left done place modules) ≡ all → all ≡ Err (BadPattern place)
values_stop s front zero done place modules all is some none rest = absurd (omega arith)
values_stop s front (suc left) done place modules all is some none rest = sym rest ∙ ap (values_and_more front) (onward s left done place modules None is none)

pub values_more : (s : RowSymbology) (front : List ℕ) (left done place value wide : ℕ) (modules : List Bool) (all : Result (List ℕ) ScanFault) → is_proper_end s done modules ≡ false → 1 ≤ left
    → wide ≡ pattern_modules s → value_in_front s modules ≡ Some value → values_and_more front (values_from s left done place modules) ≡ all
    → values_and_more (front ++ value ∷ []) (values_from s (left - 1) (done + 1) (place + wide) (drop wide modules)) ≡ all
values_more s front zero done place value wide modules all is some same found rest = absurd (omega arith)
values_more s front (suc left) done place value wide modules all is some same found rest =
    let more = λ (n w : ℕ). values_from s n (done + 1) (place + w) (drop w modules) in
    ap (λ (w : ℕ). values_and_more (front ++ value ∷ []) (more (suc left - 1) w)) same
    ∙ ap (λ (n : ℕ). values_and_more (front ++ value ∷ []) (more n (pattern_modules s))) (let e : suc left - 1 ≡ left = omega arith in e)
    ∙ values_joined front (value ∷ []) (more left (pattern_modules s))
    ∙ ap (values_and_more front) (sym (onward s left done place modules (Some value) is found))
    ∙ rest

-- A proper end has enough patterns in front of it.
pub enough_done : (s : RowSymbology) (done : ℕ) (modules : List Bool) → is_proper_end s done modules ≡ true → least_patterns s ≤ done
unfolding is_proper_end
enough_done s done modules is = elim (nat_le (least_patterns s) done) as (λ (b : Bool). nat_le (least_patterns s) done ≡ b → (if b then is_end s modules else false) ≡ true → least_patterns s ≤ done) [
  | true ↦ λ e _. leb-true (least_patterns s) done e
  | false ↦ λ e h. absurd (cc)
] refl is
