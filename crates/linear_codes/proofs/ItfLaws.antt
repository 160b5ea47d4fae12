-- Bars and spaces in turn, one pair more at a time, and how many modules they have.
use Rattle.std.proofs.Common.{◌≡◌, ℕ, suc, ◌+◌, ◌-◌, ◌*◌, ◌<◌, ◌≤◌, inl, inr, List, [], ◌∷◌, ◌++◌, length, map, take, drop, replicate, slice_index, ◌^◌, sum, ◌==◌, mul-suc, Bool, true, false, if◌then◌else◌, refl, sym, ap, ◌∙◌, arith, append_assoc}
use Rattle.std.proofs.lemmas.List.{get_or_past, append-nil, take_all, drop_all, length-append}
use Rattle.std.proofs.Math.Seq.{drop-cons}
use Rattle.std.proofs.Math.Nat.{pow-le-pow_right}
use Rattle.std.proofs.lemmas.Nat.{pow-add}
use Rattle.std.proofs.lemmas.Bool.{cases_lt, agree_below, agree_below_at, eqb-true}
use Rattle.std.proofs.lemmas.List.Sums.{sum_by-cons}
use mir.Val.{bool_byte}
use Rattle.bar_base.specs.Bits.{number_after}
use Rattle.bar_base.specs.Stripes.{stripes}
use Rattle.bar_base.proofs.StripeLaws.{bit_is, number_after-append}
use Rattle.linear_codes.specs.Itf14.{digit_elements, is_wide, element_width, in_turn, digit_pairs, symbol_widths14}
use Rattle.linear_codes.specs.declared.itf14_table.TheConstants.{ELEMENTS, START, STOP}

here : (xs : List ℕ) (i : ℕ) → i < length xs → drop i xs ≡ slice_index xs i ∷ drop (i + 1) xs
here xs i inside = let e : i + 1 ≡ suc i = omega arith in drop-cons xs i 0 inside ∙ ap (λ (k : ℕ). slice_index xs i ∷ drop k xs) (sym e)

-- one bar and one space more
pub turn_more : (front one two all bars spaces : List ℕ) (i : ℕ) → i < length bars → i < length spaces
    → front ++ in_turn (drop i bars) (drop i spaces) ≡ all
    → one ≡ front ++ slice_index bars i ∷ [] → two ≡ one ++ slice_index spaces i ∷ []
    → two ++ in_turn (drop (i + 1) bars) (drop (i + 1) spaces) ≡ all
unfolding in_turn
turn_more front one two all bars spaces i in_bars in_spaces is first second =
    let rest = in_turn (drop (i + 1) bars) (drop (i + 1) spaces) in
    let bar = slice_index bars i in
    let space = slice_index spaces i in
    ap (λ (xs : List ℕ). xs ++ rest) (second ∙ ap (λ (xs : List ℕ). xs ++ space ∷ []) first)
    ∙ append_assoc (front ++ bar ∷ []) (space ∷ []) rest
    ∙ append_assoc front (bar ∷ []) (space ∷ rest)
    ∙ ap (λ (xs : List ℕ). front ++ in_turn xs (space ∷ drop (i + 1) spaces)) (sym (here bars i in_bars))
    ∙ ap (λ (xs : List ℕ). front ++ in_turn (drop i bars) xs) (sym (here spaces i in_spaces))
    ∙ is

pub turn_end : (front all bars spaces : List ℕ) (i : ℕ) → length bars ≤ i → front ++ in_turn (drop i bars) (drop i spaces) ≡ all → front ≡ all
unfolding in_turn
turn_end front all bars spaces i past is = sym (append-nil front) ∙ ap (λ (xs : List ℕ). front ++ in_turn xs (drop i spaces)) (sym (drop_all i bars past)) ∙ is

-- the first pair
pub pairs_none : (digits : List ℕ) → length digits < 2 → digit_pairs digits ≡ []
unfolding digit_pairs
pairs_none [] few = refl
pairs_none (first ∷ []) few = refl
pairs_none (first ∷ second ∷ digits) few = absurd (omega arith)

pairs_some : (digits : List ℕ) → 2 ≤ length digits
    → digit_pairs digits ≡ in_turn (digit_elements (slice_index digits 0)) (digit_elements (slice_index digits 1)) ++ digit_pairs (take (length digits - 2) (drop 2 digits))
unfolding digit_pairs
pairs_some [] some = absurd (omega arith)
pairs_some (first ∷ []) some = absurd (omega arith)
pairs_some (first ∷ second ∷ digits) some =
    ap (λ (xs : List ℕ). in_turn (digit_elements first) (digit_elements second) ++ digit_pairs xs) (sym (take_all (length (first ∷ second ∷ digits) - 2) digits (omega arith)))

-- the first pair, and all others
pub pairs_joined : (old new bars spaces digits : List ℕ) → 2 ≤ length digits → bars ≡ digit_elements (slice_index digits 0)
    → spaces ≡ digit_elements (slice_index digits 1) → new ≡ old ++ in_turn bars spaces → new ++ digit_pairs (take (length digits - 2) (drop 2 digits)) ≡ old ++ digit_pairs digits
pairs_joined old new bars spaces digits some first second is =
    let rest = digit_pairs (take (length digits - 2) (drop 2 digits)) in
    ap (λ (xs : List ℕ). xs ++ rest) is
    ∙ append_assoc old (in_turn bars spaces) rest
    ∙ ap (λ (xs : List ℕ). old ++ (in_turn xs spaces ++ rest)) first
    ∙ ap (λ (xs : List ℕ). old ++ (in_turn (digit_elements (slice_index digits 0)) xs ++ rest)) second
    ∙ ap (λ (xs : List ℕ). old ++ xs) (sym (pairs_some digits some))

-- the elements of a digit as binary digits
pub element_more : (number new all : ℕ) (elements : List ℕ) (i : ℕ) → i < length elements
    → number_after number (map is_wide (drop i elements)) ≡ all → new ≡ number * 2 + bool_byte (is_wide (slice_index elements i))
    → number_after new (map is_wide (drop (i + 1) elements)) ≡ all
unfolding number_after
element_more number new all elements i inside is more =
    ap (λ (n : ℕ). number_after n (map is_wide (drop (i + 1) elements))) (more ∙ ap (λ (n : ℕ). number * 2 + n) (bit_is (is_wide (slice_index elements i))))
    ∙ ap (λ (xs : List ℕ). number_after number (map is_wide xs)) (sym (here elements i inside))
    ∙ is

pub element_end : (number all : ℕ) (elements : List ℕ) (i : ℕ) → length elements ≤ i → number_after number (map is_wide (drop i elements)) ≡ all → number ≡ all
unfolding number_after
element_end number all elements i past is = ap (λ (xs : List ℕ). number_after number (map is_wide xs)) (sym (drop_all i elements past)) ∙ is

pub power_small : (i : ℕ) → i < 5 → 2 ^ i ≤ 16
power_small i small = pow-le-pow_right {n = 2} (omega arith) {i = i} {j = 4} (omega arith)

pub power_more : (i : ℕ) → 2 ^ (i + 1) ≡ 2 ^ i * 2
power_more i = pow-add 2 i 1

elements_test : agree_below (λ digit. length (digit_elements digit) == 5) (λ _. true) 10 ≡ true
unfolding digit_elements
elements_test = refl

pub elements_long : (digit : ℕ) → digit < 10 → length (digit_elements digit) ≡ 5
elements_long digit small = eqb-true (length (digit_elements digit)) 5 (agree_below_at (λ d. length (digit_elements d) == 5) (λ _. true) 10 digit elements_test small)

elements_none : (digit : ℕ) → 10 ≤ digit → digit_elements digit ≡ []
unfolding digit_elements
elements_none digit past = get_or_past ELEMENTS digit [] past

-- Elements have few modules.
width_few : (element : ℕ) → element_width element ≤ 3
width_few element = elim (is_wide element) as (λ b. (if b then 3 else 1) ≤ 3) [ true ↦ omega arith | false ↦ omega arith ]

widths_few : (elements : List ℕ) → sum (map element_width elements) ≤ 3 * length elements
widths_few [] = omega arith
widths_few (element ∷ elements) =
    let rest = widths_few elements in
    let joined = sum_by-cons (λ (n : ℕ). n) (element_width element) (map element_width elements) in
    let few = width_few element in
    let long : 3 * length (element ∷ elements) ≡ 3 + 3 * length elements = rw (mul-suc 3 (length elements)) (omega arith) in
    omega arith

in_turn_few : (bars spaces : List ℕ) → length (in_turn bars spaces) ≤ 2 * length bars
unfolding in_turn
in_turn_few [] spaces = omega arith
in_turn_few (bar ∷ bars) [] = omega arith
in_turn_few (bar ∷ bars) (space ∷ spaces) =
    let rest = in_turn_few bars spaces in
    let long : 2 * length (bar ∷ bars) ≡ 2 + 2 * length bars = rw (mul-suc 2 (length bars)) (omega arith) in
    omega arith

elements_few : (digit : ℕ) → length (digit_elements digit) ≤ 5
elements_few digit = elim (cases_lt digit 10) [ inl below ↦ omega (arith, elements_long digit below) | inr past ↦ rw (elements_none digit past) (omega arith) ]

pairs_few : (digits : List ℕ) → length (digit_pairs digits) ≤ 10 * length digits
unfolding digit_pairs
pairs_few [] = omega arith
pairs_few (first ∷ []) = omega arith
pairs_few (first ∷ second ∷ digits) =
    let rest = pairs_few digits in
    let pair = in_turn_few (digit_elements first) (digit_elements second) in
    let few = elements_few first in
    let joined = length-append (in_turn (digit_elements first) (digit_elements second)) (digit_pairs digits) in
    let long : 10 * length (first ∷ second ∷ digits) ≡ 20 + 10 * length digits = rw (mul-suc 10 (length (second ∷ digits)), mul-suc 10 (length digits)) (omega arith) in
    omega arith

-- The symbols of ITF-14 have few modules.
pub symbol14_some : (digits : List ℕ) → 1 ≤ sum (symbol_widths14 digits)
unfolding symbol_widths14
symbol14_some digits = let joined = sum_by-cons (λ (n : ℕ). n) 1 (map element_width (1 ∷ 1 ∷ 1 ∷ [] ++ digit_pairs digits ++ STOP)) in omega arith

pub symbol14_few : (digits : List ℕ) → length digits ≤ 20 → sum (symbol_widths14 digits) ≤ 16384
unfolding symbol_widths14
symbol14_few digits few =
    let whole = widths_few (START ++ digit_pairs digits ++ STOP) in
    let long = pairs_few digits in
    let joined = length-append (START ++ digit_pairs digits) STOP in
    let front = length-append START (digit_pairs digits) in
    omega arith

-- A number with the digits of one element more.
pub wide_digits : (number : ℕ) (dark : Bool) → number * 8 + bool_byte dark * 7 ≡ number_after number (replicate 3 dark)
unfolding number_after
wide_digits number true = let e : number * 8 + 7 ≡ ((number * 2 + 1) * 2 + 1) * 2 + 1 = omega arith in e
wide_digits number false = let e : number * 8 + 0 ≡ ((number * 2 + 0) * 2 + 0) * 2 + 0 = omega arith in e

pub narrow_digits : (number : ℕ) (dark : Bool) → number * 2 + bool_byte dark ≡ number_after number (replicate 1 dark)
unfolding number_after
narrow_digits number dark = ap (λ (n : ℕ). number * 2 + n) (bit_is dark)

-- The digits of a bar and of the space behind it, and of the rest.
pub pair_digits : (number with_bar new all bar space : ℕ) (bars spaces : List ℕ)
    → number_after number (stripes true (map element_width (in_turn (bar ∷ bars) (space ∷ spaces)))) ≡ all
    → with_bar ≡ number_after number (replicate (element_width bar) true) → new ≡ number_after with_bar (replicate (element_width space) false)
    → number_after new (stripes true (map element_width (in_turn bars spaces))) ≡ all
unfolding stripes in_turn
pair_digits number with_bar new all bar space bars spaces is first second =
    let rest = stripes true (map element_width (in_turn bars spaces)) in
    let spaced = replicate (element_width space) false in
    ap (λ (n : ℕ). number_after n rest) second
    ∙ sym (number_after-append spaced with_bar rest)
    ∙ ap (λ (n : ℕ). number_after n (spaced ++ rest)) first
    ∙ sym (number_after-append (replicate (element_width bar) true) number (spaced ++ rest))
    ∙ is

pub pair_more : (number with_bar new all : ℕ) (bars spaces : List ℕ) (i : ℕ) → i < length bars → i < length spaces
    → number_after number (stripes true (map element_width (in_turn (drop i bars) (drop i spaces)))) ≡ all
    → with_bar ≡ number_after number (replicate (element_width (slice_index bars i)) true)
    → new ≡ number_after with_bar (replicate (element_width (slice_index spaces i)) false)
    → number_after new (stripes true (map element_width (in_turn (drop (i + 1) bars) (drop (i + 1) spaces)))) ≡ all
pair_more number with_bar new all bars spaces i in_bars in_spaces is first second =
    pair_digits number with_bar new all (slice_index bars i) (slice_index spaces i) (drop (i + 1) bars) (drop (i + 1) spaces)
    (ap (λ (xs : List ℕ). number_after number (stripes true (map element_width (in_turn xs (slice_index spaces i ∷ drop (i + 1) spaces))))) (sym (here bars i in_bars))
    ∙ ap (λ (xs : List ℕ). number_after number (stripes true (map element_width (in_turn (drop i bars) xs)))) (sym (here spaces i in_spaces))
    ∙ is)
    first second

pub pair_end : (number all : ℕ) (bars spaces : List ℕ) (i : ℕ) → length bars ≤ i
    → number_after number (stripes true (map element_width (in_turn (drop i bars) (drop i spaces)))) ≡ all → number ≡ all
unfolding number_after stripes in_turn
pair_end number all bars spaces i past is =
    ap (λ (xs : List ℕ). number_after number (stripes true (map element_width (in_turn xs (drop i spaces))))) (sym (drop_all i bars past)) ∙ is

pub pair_room : (i : ℕ) → i < 5 → 64 ^ i ≤ 16777216
pair_room i small = pow-le-pow_right {n = 64} (omega arith) {i = i} {j = 4} (omega arith)

pub pair_room_more : (i : ℕ) → 64 ^ (i + 1) ≡ 64 ^ i * 64
pair_room_more i = pow-add 64 i 1

pub width_narrow : (element : ℕ) → (element == 2) ≡ false → element_width element ≡ 1
width_narrow element is = ap (λ (b : Bool). if b then 3 else 1) is

pub width_wide : (element : ℕ) → element ≡ 2 → element_width element ≡ 3
width_wide element is = ap element_width is
