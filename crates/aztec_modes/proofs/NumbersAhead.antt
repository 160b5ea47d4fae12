-- Numbers that bits write.
use Rattle.std.proofs.Common.{◌≡◌, ℕ, zero, suc, ◌+◌, ◌*◌, ◌/◌, ◌%◌, ◌^◌, ◌<◌, ◌≤◌, Bool, true, false, List, [], ◌∷◌, ◌++◌, length, take, drop, slice_get, get_or, Some, refl, sym, ap, ◌∙◌, arith}
use Rattle.std.specs.Prelude.{if◌then◌else◌, ◌==◌}
use Rattle.std.specs.Int.{from_bool}
use Rattle.std.proofs.Math.Nat.{pow-suc, mul-le-mul_left, mul-le-mul_right, mul_comm, mul_assoc, one-le-pow, pow-le-pow_right}
use Rattle.std.proofs.Math.Pow.{pow_mono}
use Rattle.std.specs.Prelude.{Option, None, ◌-◌}
use Rattle.aztec_modes.specs.Ahead.{onward_from, digit_ahead, digits_ahead}
use Rattle.std.proofs.lemmas.Bool.Decides.{nat_tests}
use Rattle.std.proofs.lemmas.List.{append_assoc, take_more, get_or-drop, length-drop, length-append}
use Rattle.std.proofs.lemmas.Option.{get_or_from_slice_get, slice_get_within}
use Rattle.std.proofs.lemmas.List.{drop-drop}
use Rattle.bar_base.specs.Bits.{to_bits, number_after}
use Rattle.aztec_modes.proofs.Values.{number_after-push}

-- The number of the first bits.
pub record NumberSoFar (bits : List Bool) (at i number : ℕ) : Type 0 where
  pub is : number ≡ number_after 0 (take i (drop at bits))
  pub below : number < 2 ^ i

pub number_starts : (bits : List Bool) (at : ℕ) → NumberSoFar bits at 0 0
unfolding number_after
number_starts bits at = record { is = refl; below = omega arith }

bit_number : (bit : Bool) → from_bool bit ≡ (if bit then 1 else 0)
bit_number true = refl
bit_number false = refl

bit_small : (bit : Bool) → from_bool bit ≤ 1
bit_small true = omega arith
bit_small false = omega arith

pub number_steps : (bits : List Bool) (at i number more : ℕ) (bit : Bool) → NumberSoFar bits at i number → slice_get bits (at + i) ≡ Some bit
    → more ≡ number * 2 + from_bool bit → NumberSoFar bits at (i + 1) more
number_steps bits at i number more bit so_far here is =
    let within : at + i < length bits = slice_get_within bits (at + i) bit here in
    let got : get_or (drop at bits) i bit ≡ bit = get_or-drop at bits i bit ∙ get_or_from_slice_get bits (at + i) bit bit here in
    let taken : take (i + 1) (drop at bits) ≡ take i (drop at bits) ++ bit ∷ [] =
    take_more (drop at bits) i bit (omega (arith, length-drop at bits)) ∙ ap (λ (b : Bool). take i (drop at bits) ++ b ∷ []) got in
    let power : 2 ^ (i + 1) ≡ 2 ^ i * 2 = ap (λ (k : ℕ). 2 ^ k) (let e : i + 1 ≡ suc i = omega arith in e) ∙ (let e : 2 ^ suc i ≡ 2 ^ i * 2 = omega (arith, pow-suc 2 i) in e) in
    record {
      is = is ∙ ap (λ (n : ℕ). n * 2 + from_bool bit) so_far.is ∙ ap (λ (n : ℕ). number_after 0 (take i (drop at bits)) * 2 + n) (bit_number bit)
          ∙ sym (number_after-push 0 (take i (drop at bits)) bit) ∙ ap (number_after 0) (sym taken);
      below = let low : number < 2 ^ i = so_far.below in omega (arith, power, bit_small bit, is, low);
    }

-- What is read further on.
pub drop_on : {X : Type 0} (xs : List X) (at more : ℕ) → drop (at + more) xs ≡ drop more (drop at xs)
drop_on xs at more = sym (drop-drop more at xs)

-- One more digit keeps the number below a million.
pub digits_fit : (front digit count : ℕ) → 1 ≤ count → (front + 1) * 10 ^ count ≤ 1000000 → digit ≤ 9 → (front * 10 + digit + 1) * 10 ^ (count - 1) ≤ 1000000
digits_fit front digit zero some small low = absurd (omega arith)
digits_fit front digit (suc count) some small low =
    let less : suc count - 1 ≡ count = omega arith in
    ap_le (ap (λ (k : ℕ). (front * 10 + digit + 1) * 10 ^ k) less) (more (10 ^ count) (10 ^ suc count) (pow-suc 10 count) small)
  where
    ap_le : {a b : ℕ} → a ≡ b → b ≤ 1000000 → a ≤ 1000000
    ap_le is h = omega (arith, is, h)

    more : (p q : ℕ) → q ≡ p * 10 → (front + 1) * q ≤ 1000000 → (front * 10 + digit + 1) * p ≤ 1000000
    more p q is below =
        let step : (front * 10 + digit + 1) * p ≤ ((front + 1) * 10) * p = mul-le-mul_right p (let e : front * 10 + digit + 1 ≤ (front + 1) * 10 = omega (arith, low) in e) in
        let same : (front + 1) * q ≡ ((front + 1) * 10) * p = ap (λ (x : ℕ). (front + 1) * x) (is ∙ mul_comm p 10) ∙ sym (mul_assoc (front + 1) 10 p) in
        omega (arith, step, same, below)

-- A number before which a digit may still be put is below a hundred thousand.
pub digits_low : (front count : ℕ) → 1 ≤ count → (front + 1) * 10 ^ count ≤ 1000000 → front < 100000
digits_low front zero some small = absurd (omega arith)
digits_low front (suc count) some small =
    let power : 10 ≤ 10 ^ suc count = omega (arith, pow-suc 10 count, one-le-pow count 10 (omega arith)) in
    let step : (front + 1) * 10 ≤ (front + 1) * 10 ^ suc count = mul-le-mul_left (front + 1) power in
    omega (arith, step, small)

pub number_below : (front count : ℕ) → (front + 1) * 10 ^ count ≤ 1000000 → front ≤ 999999
number_below front count small =
    let step : (front + 1) * 1 ≤ (front + 1) * 10 ^ count = mul-le-mul_left (front + 1) (one-le-pow count 10 (omega arith)) in
    omega (arith, step, small)

pub digits_none : (count front : ℕ) (bits : List Bool) → 1 ≤ count → digit_ahead bits ≡ None → digits_ahead count front bits ≡ None
unfolding digits_ahead onward_from
digits_none zero front bits some none = absurd (omega arith)
digits_none (suc count) front bits some none = ap (λ (d : Option ℕ). onward_from d (λ digit. digits_ahead count (front * 10 + digit) (drop 4 bits))) none

pub digits_some : (count front digit : ℕ) (bits rest : List Bool) → 1 ≤ count → digit_ahead bits ≡ Some digit → rest ≡ drop 4 bits
    → digits_ahead count front bits ≡ digits_ahead (count - 1) (front * 10 + digit) rest
unfolding digits_ahead onward_from
digits_some zero front digit bits rest some is rest_is = absurd (omega arith)
digits_some (suc count) front digit bits rest some is rest_is =
    let less : suc count - 1 ≡ count = omega arith in
    ap (λ (d : Option ℕ). onward_from d (λ digit. digits_ahead count (front * 10 + digit) (drop 4 bits))) is
    ∙ ap (digits_ahead count (front * 10 + digit)) (sym rest_is) ∙ sym (ap (λ (k : ℕ). digits_ahead k (front * 10 + digit) rest) less)

-- A number of five bits is below 32.
pub narrow : (count number : ℕ) → number < 2 ^ count → count ≤ 5 → number < 32
narrow count number below small = let e : 2 ^ count ≤ 2 ^ 5 = pow_mono small in omega (arith, e, below)

pub some_left : (count : ℕ) → (count ≡ 0 → ⊥) → 1 ≤ count
some_left zero none = absurd (none refl)
some_left (suc count) none = omega arith

pub power_fits : (n : ℕ) → n < 8 → (n ≡ 7 → ⊥) → 1 * 10 ^ n ≤ 1000000
power_fits n small other =
    let low : n ≤ 6 = omega (arith, some_left (7 - n) (λ h. other (let e : n ≡ 7 = omega (arith, h) in e))) in
    let e : 10 ^ n ≤ 10 ^ 6 = pow-le-pow_right (let h : 0 < 10 = omega arith in h) low in omega (arith, e)
