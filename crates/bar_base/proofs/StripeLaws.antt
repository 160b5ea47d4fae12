-- Bars and spaces, one more at a time, and how many modules they have.
use Rattle.std.proofs.Common.{◌≡◌, ℕ, suc, ◌+◌, ◌*◌, ◌^◌, ◌<◌, ◌≤◌, Bool, true, false, not, if◌then◌else◌, List, [], ◌∷◌, ◌++◌, length, drop, replicate, slice_index, sum, mul-suc, refl, sym, ap, ◌∙◌, arith, append_assoc}
use Rattle.std.proofs.lemmas.List.{append-nil, replicate-append-replicate, drop_all, length-append, length-replicate}
use Rattle.std.proofs.lemmas.List.Sums.{sum_by-cons, sum_by-append}
use Rattle.std.specs.List.{flat_map}
use Rattle.std.proofs.lemmas.List.Elements.{All-nil, All-cons}
use Rattle.std.proofs.Math.Seq.{drop-cons}
use mir.Val.{bool_byte}
use Rattle.std.proofs.lemmas.Nat.{pow-add}
use Rattle.std.proofs.Math.Nat.{pow-le-pow_right, mul-le-mul_left, mul-le-mul_right}
use Rattle.bar_base.specs.Bits.{number_after}
use Rattle.bar_base.specs.Picture.{Picture, IsShaped}
use Rattle.bar_base.specs.Stripes.{stripes, row_picture}

-- as many modules as the sum of the widths
pub length-stripes : (dark : Bool) (widths : List ℕ) → length (stripes dark widths) ≡ sum widths
unfolding stripes
length-stripes dark [] = refl
length-stripes dark (width ∷ widths) =
    length-append (replicate width dark) (stripes (not dark) widths)
    ∙ ap (λ (n : ℕ). n + length (stripes (not dark) widths)) (length-replicate width dark)
    ∙ ap (λ (n : ℕ). width + n) (length-stripes (not dark) widths)
    ∙ sym (sum_by-cons (λ (n : ℕ). n) width widths)

-- the rest of the widths begins with the one at its place
widths_here : (widths : List ℕ) (i : ℕ) → i < length widths → drop i widths ≡ slice_index widths i ∷ drop (i + 1) widths
widths_here widths i inside = let e : i + 1 ≡ suc i = omega arith in drop-cons widths i 0 inside ∙ ap (λ (k : ℕ). slice_index widths i ∷ drop k widths) (sym e)

-- one stripe more
pub stripes_more : (row new all : List Bool) (dark : Bool) (widths : List ℕ) (i : ℕ) → i < length widths
    → row ++ stripes dark (drop i widths) ≡ all → new ≡ row ++ replicate (slice_index widths i) dark → new ++ stripes (not dark) (drop (i + 1) widths) ≡ all
unfolding stripes
stripes_more row new all dark widths i inside is more =
    ap (λ (xs : List Bool). xs ++ stripes (not dark) (drop (i + 1) widths)) more
    ∙ append_assoc row (replicate (slice_index widths i) dark) (stripes (not dark) (drop (i + 1) widths))
    ∙ ap (λ (ws : List ℕ). row ++ stripes dark ws) (sym (widths_here widths i inside)) ∙ is

pub stripes_end : (row all : List Bool) (dark : Bool) (widths : List ℕ) (i : ℕ) → length widths ≤ i → row ++ stripes dark (drop i widths) ≡ all → row ≡ all
unfolding stripes
stripes_end row all dark widths i past is =
    sym (append-nil row) ∙ ap (λ (ws : List ℕ). row ++ stripes dark ws) (sym (drop_all i widths past)) ∙ is

-- the digits of joined lists
pub number_after-append : (first : List Bool) (front : ℕ) (second : List Bool) → number_after front (first ++ second) ≡ number_after (number_after front first) second
unfolding number_after
number_after-append [] front second = refl
number_after-append (bit ∷ first) front second = number_after-append first (front * 2 + (if bit then 1 else 0)) second

pub bit_is : (dark : Bool) → bool_byte dark ≡ (if dark then 1 else 0)
bit_is true = refl
bit_is false = refl

pub bit_small : (dark : Bool) → bool_byte dark ≤ 1
bit_small true = omega arith
bit_small false = omega arith

-- one digit more
pub digit_more : (front longer count : ℕ) (dark : Bool) → longer ≡ number_after front (replicate count dark)
    → longer * 2 + bool_byte dark ≡ number_after front (replicate (count + 1) dark)
unfolding number_after
digit_more front longer count dark is =
    ap (λ (n : ℕ). longer * 2 + n) (bit_is dark)
    ∙ ap (λ (n : ℕ). number_after n (dark ∷ [])) is
    ∙ sym (number_after-append (replicate count dark) front (dark ∷ []))
    ∙ ap (λ (xs : List Bool). number_after front xs) (replicate-append-replicate count 1 dark)

pub digit_none : (front : ℕ) (dark : Bool) → front ≡ number_after front (replicate 0 dark)
unfolding number_after
digit_none front dark = refl

-- there is room for one digit more
pub room_more : (front longer count width : ℕ) → count < width → longer + 1 ≤ (front + 1) * 2 ^ count → (longer + 1) * 2 ≤ (front + 1) * 2 ^ (count + 1)
room_more front longer count width inside bounded = let e : 2 ^ (count + 1) ≡ 2 ^ count * 2 = pow-add 2 count 1 in rw e (grind arith)

pub room_whole : (front count width most : ℕ) → count ≤ width → (front + 1) * 2 ^ width ≤ most → (front + 1) * 2 ^ count ≤ most
room_whole front count width most inside whole =
    let e : 2 ^ count ≤ 2 ^ width = pow-le-pow_right (omega arith) inside in
    let f : (front + 1) * 2 ^ count ≤ (front + 1) * 2 ^ width = mul-le-mul_left (front + 1) e in
    omega arith

-- one stripe's digits more
pub stripe_digits : (number new all : ℕ) (dark : Bool) (widths : List ℕ) (i : ℕ) → i < length widths
    → number_after number (stripes dark (drop i widths)) ≡ all → new ≡ number_after number (replicate (slice_index widths i) dark)
    → number_after new (stripes (not dark) (drop (i + 1) widths)) ≡ all
unfolding stripes
stripe_digits number new all dark widths i inside is more =
    ap (λ (n : ℕ). number_after n (stripes (not dark) (drop (i + 1) widths))) more
    ∙ sym (number_after-append (replicate (slice_index widths i) dark) number (stripes (not dark) (drop (i + 1) widths)))
    ∙ ap (λ (ws : List ℕ). number_after number (stripes dark ws)) (sym (widths_here widths i inside)) ∙ is

pub stripe_digits_end : (number all : ℕ) (dark : Bool) (widths : List ℕ) (i : ℕ) → length widths ≤ i → number_after number (stripes dark (drop i widths)) ≡ all → number ≡ all
unfolding stripes number_after
stripe_digits_end number all dark widths i past is = ap (λ (ws : List ℕ). number_after number (stripes dark ws)) (sym (drop_all i widths past)) ∙ is

sum_here : (widths : List ℕ) (i : ℕ) → i < length widths → sum (drop i widths) ≡ slice_index widths i + sum (drop (i + 1) widths)
sum_here widths i inside = ap sum (widths_here widths i inside) ∙ sum_by-cons (λ (n : ℕ). n) (slice_index widths i) (drop (i + 1) widths)

pub stripe_room : (number : ℕ) (widths : List ℕ) (i : ℕ) → i < length widths → (number + 1) * 2 ^ sum (drop i widths) ≤ 2 ^ 16 → (number + 1) * 2 ^ slice_index widths i ≤ 2 ^ 16
stripe_room number widths i inside room = room_whole number (slice_index widths i) (sum (drop i widths)) (2 ^ 16) (omega (arith, sum_here widths i inside)) room

pub stripe_room_more : (number new : ℕ) (widths : List ℕ) (i : ℕ) → i < length widths → (number + 1) * 2 ^ sum (drop i widths) ≤ 2 ^ 16
    → new + 1 ≤ (number + 1) * 2 ^ slice_index widths i → (new + 1) * 2 ^ sum (drop (i + 1) widths) ≤ 2 ^ 16
stripe_room_more number new widths i inside room small =
    let w = slice_index widths i in
    let rest = sum (drop (i + 1) widths) in
    let e : 2 ^ sum (drop i widths) ≡ 2 ^ w * 2 ^ rest = ap (λ (n : ℕ). 2 ^ n) (sum_here widths i inside) ∙ pow-add 2 w rest in
    let f : (new + 1) * 2 ^ rest ≤ ((number + 1) * 2 ^ w) * 2 ^ rest = mul-le-mul_right (2 ^ rest) small in
    let g : (number + 1) * 2 ^ sum (drop i widths) ≡ ((number + 1) * 2 ^ w) * 2 ^ rest = rw e (omega arith) in
    omega arith

pub room_first : (widths : List ℕ) → sum widths ≤ 16 → (0 + 1) * 2 ^ sum widths ≤ 2 ^ 16
room_first widths small = let e : 2 ^ sum widths ≤ 2 ^ 16 = pow-le-pow_right (omega arith) small in omega arith

-- a picture of one row
abbrev pub one_row : (width : ℕ) (modules : List Bool) → Picture
one_row width modules = record { width = width; heights = 1 ∷ []; modules = modules }

pub row_is : (width : ℕ) (modules : List Bool) (widths : List ℕ) → width ≡ length modules → modules ≡ stripes true widths → one_row width modules ≡ row_picture widths
unfolding row_picture
row_is width modules widths long whole =
    ap (λ (n : ℕ). one_row n modules) (long ∙ ap length whole ∙ length-stripes true widths) ∙ ap (one_row (sum widths)) whole

-- and its shape
pub row_shaped : (width : ℕ) (modules : List Bool) (widths : List ℕ) → width ≡ length modules → modules ≡ stripes true widths → 1 ≤ sum widths → sum widths ≤ 16384
    → IsShaped (one_row width modules)
row_shaped width modules widths long whole some few =
    let sums : length modules ≡ sum widths = ap length whole ∙ length-stripes true widths in
    record {
      whole = omega arith;
      wide = omega arith;
      narrow = omega arith;
      tall = omega arith;
      short = omega arith;
      small = omega arith;
      heights = All-cons (λ height. (1 ≤ height) × (height ≤ 200)) 1 [] (omega arith, omega arith) (All-nil (λ height. (1 ≤ height) × (height ≤ 200)));
    }

-- joined pieces have few modules where each piece has
pub sum-flat_map : (f : ℕ → List ℕ) (most : ℕ) → ((x : ℕ) → sum (f x) ≤ most) → (xs : List ℕ) → sum (flat_map f xs) ≤ most * length xs
sum-flat_map f most each [] = omega arith
sum-flat_map f most each (x ∷ xs) =
    let rest = sum-flat_map f most each xs in
    let joined = sum_by-append (λ (n : ℕ). n) (f x) (flat_map f xs) in
    let here = each x in
    let long : most * length (x ∷ xs) ≡ most + most * length xs = rw (mul-suc most (length xs)) (omega arith) in
    omega arith
