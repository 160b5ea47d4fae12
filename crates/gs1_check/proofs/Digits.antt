-- A number of few digits, read from the left.
use Rattle.std.proofs.Common.{◌≡◌, ℕ, zero, ◌+◌, ◌*◌, ◌^◌, ◌<◌, ◌≤◌, ◌&&◌, ◌∙◌, List, Bool, true, false, nat_lt, length, take, take_all, get_or, Some, None, if◌then◌else◌, ap, sym, refl, arith, lit<}
use Rattle.std.specs.Char.{digit_value}
use Rattle.std.specs.Str.Parse.{digits_value}
use Rattle.std.proofs.Math.Nat.{pow-le-pow_right}
use Rattle.std.proofs.lemmas.Bool.{lt-ltb, ltb-true}
use Rattle.std.proofs.lemmas.Grind.{pow_more}
use Rattle.std.proofs.lemmas.Int.Digits.{digits_value_more}
use Rattle.std.proofs.lemmas.List.Folds.{list_all_at, list_all_more}
use Rattle.gs1_check.specs.Identifiers.{all_digits, identifier_number}

-- the first i bytes are digits and write the number
pub record Read (digits : List ℕ) (i number : ℕ) : Type 0 where
  pub small : number < 10 ^ i
  pub value : number ≡ digits_value 10 (take i digits)
  pub each : all_digits (take i digits) ≡ true

within_six : (i : ℕ) → i ≤ 6 → 10 ^ i ≤ 10 ^ 6
within_six i few = let positive : zero < 10 = lit< tt in pow-le-pow_right positive few

pub times_fits : (n i : ℕ) → n < 10 ^ i → i < 6 → n * 10 < 10 ^ 6
times_fits n i small few =
    let next = pow_more 10 i in
    let most = within_six (i + 1) (omega arith) in
    omega arith

more_small : (n i d : ℕ) → n < 10 ^ i → d < 10 → n * 10 + d < 10 ^ (i + 1)
more_small n i d small digit =
    let next = pow_more 10 i in
    omega arith

pub more_fits : (n i d : ℕ) → n < 10 ^ i → i < 6 → d < 10 → n * 10 + d < 10 ^ 6
more_fits n i d small few digit =
    let most = within_six (i + 1) (omega arith) in
    let next = more_small n i d small digit in
    omega arith

-- one more digit
pub read_more : (digits : List ℕ) (i number d : ℕ) → Read digits i number → i < length digits
    → digit_value (get_or digits i 0) < 10 → d ≡ digit_value (get_or digits i 0) → Read digits (i + 1) (number * 10 + d)
read_more digits i number d so_far within digit is = record {
  small = more_small number i d so_far.small (omega arith);
  value = ap (λ n. n * 10 + d) so_far.value ∙ ap (λ k. digits_value 10 (take i digits) * 10 + k) is ∙ sym (digits_value_more 10 digits i within);
  each = list_all_more (λ k. nat_lt (digit_value k) 10) digits i 0 within ∙ ap (λ b. b && nat_lt (digit_value (get_or digits i 0)) 10) so_far.each
      ∙ lt-ltb (digit_value (get_or digits i 0)) 10 digit;
}

-- all of the digits
pub all_read : (digits : List ℕ) (i number : ℕ) → Read digits i number → length digits ≤ i → Some number ≡ identifier_number digits
unfolding identifier_number
all_read digits i number so_far past =
    let whole = take_all i digits past in
    let value = so_far.value ∙ ap (digits_value 10) whole in
    let each = ap all_digits (sym whole) ∙ so_far.each in
    ap Some value ∙ ap (λ b. if b then Some (digits_value 10 digits) else None) (sym each)

not_true : (b : Bool) → (b ≡ true → ⊥) → b ≡ false
not_true true never = absurd (never refl)
not_true false _ = refl

-- a byte that is no digit
pub not_read : (digits : List ℕ) (i : ℕ) → i < length digits → (digit_value (get_or digits i 0) < 10 → ⊥) → None ≡ identifier_number digits
unfolding identifier_number
not_read digits i within is_no_digit =
    let test : Bool = nat_lt (digit_value (get_or digits i 0)) 10 in
    let fails : nat_lt (digit_value (get_or digits i 0)) 10 ≡ false = not_true test (λ e. is_no_digit (ltb-true (digit_value (get_or digits i 0)) 10 e)) in
    ap (λ b. if b then Some (digits_value 10 digits) else None) (sym (list_all_at (λ k. nat_lt (digit_value k) 10) digits i 0 within fails))
