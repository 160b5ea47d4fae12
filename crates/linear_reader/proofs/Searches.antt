-- The first number that passes a test, one number after the other; and the first check that is wrong.
use Rattle.std.proofs.Common.{◌≡◌, ◌≢◌, ℕ, suc, ◌+◌, ◌-◌, ◌==◌, ◌<◌, ◌≤◌, Bool, true, false, if◌then◌else◌, List, [], ◌∷◌, length, drop, slice_index, Option, Some, None, refl, sym, ap, ◌∙◌, arith, eq-eqb, ne_eqb}
use Rattle.std.proofs.Math.Seq.{drop-cons}
use Rattle.std.proofs.lemmas.List.{drop_all}
use Rattle.linear_reader.specs.declared.scan.ScanFault.{ScanFault}
use Rattle.linear_reader.specs.declared.scan.ScanFault.TheVariants.{BadCheck}
use Rattle.linear_reader.specs.Patterns.{first_from}
use Rattle.linear_reader.specs.Checks.{first_wrong}

step : (test : ℕ → Bool) (left v : ℕ) (b : Bool) → test v ≡ b → first_from test (suc left) v ≡ (if b then Some v else first_from test left (v + 1))
unfolding first_from
step test left v b is = ap (λ (t : Bool). if t then Some v else first_from test left (v + 1)) is

left_one : (count v : ℕ) → v < count → count - v ≡ suc (count - (v + 1))
left_one count v inside = omega arith

pub first_more : (test : ℕ → Bool) (count v : ℕ) (all : Option ℕ) → v < count → test v ≡ false → first_from test (count - v) v ≡ all
    → first_from test (count - (v + 1)) (v + 1) ≡ all
first_more test count v all inside fails is =
    sym (step test (count - (v + 1)) v false fails) ∙ ap (λ (n : ℕ). first_from test n v) (sym (left_one count v inside)) ∙ is

pub first_found : (test : ℕ → Bool) (count v : ℕ) (all : Option ℕ) → v < count → test v ≡ true → first_from test (count - v) v ≡ all → Some v ≡ all
first_found test count v all inside passes is =
    sym (step test (count - (v + 1)) v true passes) ∙ ap (λ (n : ℕ). first_from test n v) (sym (left_one count v inside)) ∙ is

pub first_none : (test : ℕ → Bool) (count v : ℕ) (all : Option ℕ) → count ≤ v → first_from test (count - v) v ≡ all → None ≡ all
unfolding first_from
first_none test count v all past is = ap (λ (n : ℕ). first_from test n v) (let e : 0 ≡ count - v = omega arith in e) ∙ is

here : (xs : List ℕ) (i : ℕ) → i < length xs → drop i xs ≡ slice_index xs i ∷ drop (i + 1) xs
here xs i inside = let e : i + 1 ≡ suc i = omega arith in drop-cons xs i 0 inside ∙ ap (λ (k : ℕ). slice_index xs i ∷ drop k xs) (sym e)

-- what is found among the checks from a place on
both : (place : ℕ) (given wanted : List ℕ) (at : ℕ) (all : Option ScanFault) → at < length given → at < length wanted
    → first_wrong (place + at) (drop at given) (drop at wanted) ≡ all
    → first_wrong (place + at) (slice_index given at ∷ drop (at + 1) given) (slice_index wanted at ∷ drop (at + 1) wanted) ≡ all
both place given wanted at all in_given in_wanted is =
    ap (λ (xs : List ℕ). first_wrong (place + at) xs (slice_index wanted at ∷ drop (at + 1) wanted)) (sym (here given at in_given))
    ∙ ap (λ (xs : List ℕ). first_wrong (place + at) (drop at given) xs) (sym (here wanted at in_wanted)) ∙ is

same_or : (place check due : ℕ) (given wanted : List ℕ) (b : Bool) → (check == due) ≡ b
    → first_wrong place (check ∷ given) (due ∷ wanted) ≡ (if b then first_wrong (place + 1) given wanted else Some (BadCheck place check due))
unfolding first_wrong
same_or place check due given wanted b is = ap (λ (t : Bool). if t then first_wrong (place + 1) given wanted else Some (BadCheck place check due)) is

pub right_more : (place : ℕ) (given wanted : List ℕ) (at : ℕ) (all : Option ScanFault) → at < length given → at < length wanted
    → slice_index given at ≡ slice_index wanted at → first_wrong (place + at) (drop at given) (drop at wanted) ≡ all
    → first_wrong (place + (at + 1)) (drop (at + 1) given) (drop (at + 1) wanted) ≡ all
right_more place given wanted at all in_given in_wanted same is =
    ap (λ (n : ℕ). first_wrong n (drop (at + 1) given) (drop (at + 1) wanted)) (let e : place + (at + 1) ≡ place + at + 1 = omega arith in e)
    ∙ sym (same_or (place + at) (slice_index given at) (slice_index wanted at) (drop (at + 1) given) (drop (at + 1) wanted) true (eq-eqb (slice_index given at) (slice_index wanted at) same))
    ∙ both place given wanted at all in_given in_wanted is

pub wrong_here : (place : ℕ) (given wanted : List ℕ) (at : ℕ) (all : Option ScanFault) → at < length given → at < length wanted
    → slice_index given at ≢ slice_index wanted at → first_wrong (place + at) (drop at given) (drop at wanted) ≡ all
    → Some (BadCheck (place + at) (slice_index given at) (slice_index wanted at)) ≡ all
wrong_here place given wanted at all in_given in_wanted other is =
    sym (same_or (place + at) (slice_index given at) (slice_index wanted at) (drop (at + 1) given) (drop (at + 1) wanted) false (ne_eqb (slice_index given at) (slice_index wanted at) other))
    ∙ both place given wanted at all in_given in_wanted is

none_left : (place : ℕ) (given : List ℕ) → None ≡ first_wrong place given []
unfolding first_wrong
none_left place [] = refl
none_left place (check ∷ given) = refl

pub right_to_end : (place : ℕ) (given wanted : List ℕ) (at : ℕ) (all : Option ScanFault) → at ≡ length wanted
    → first_wrong (place + at) (drop at given) (drop at wanted) ≡ all → None ≡ all
right_to_end place given wanted at all end is =
    none_left (place + at) (drop at given)
    ∙ ap (λ (xs : List ℕ). first_wrong (place + at) (drop at given) xs) (sym (drop_all at wanted (omega arith))) ∙ is

pub right_all : (place : ℕ) (given wanted : List ℕ) (at : ℕ) (all : Option ScanFault) → length given ≤ at
    → first_wrong (place + at) (drop at given) (drop at wanted) ≡ all → None ≡ all
unfolding first_wrong
right_all place given wanted at all past is = ap (λ (xs : List ℕ). first_wrong (place + at) xs (drop at wanted)) (sym (drop_all at given past)) ∙ is
