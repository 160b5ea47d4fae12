-- A number of at most six digits, read from the left.
use Rattle.std.proofs.Common.{◌≡◌, ℕ, zero, ◌+◌, ◌*◌, ◌^◌, ◌<◌, ◌≤◌, ◌&&◌, ◌∙◌, Bool, true, false, nat_lt, length, take, take_all, get_or, Some, None, if◌then◌else◌, ap, sym, refl, arith, lit<}
use Rattle.std.specs.Char.{digit_value}
use Rattle.std.specs.Str.Parse.{digits_value}
use Rattle.std.proofs.Math.Nat.{mul-le-mul, mul-le-mul_left, pow-le-pow_right}
use Rattle.std.proofs.lemmas.Bool.{lt-ltb, ltb-true}
use Rattle.std.proofs.lemmas.Grind.{pow_more}
use Rattle.std.proofs.lemmas.Int.Digits.{digits_value_more}
use Rattle.std.proofs.lemmas.List.Folds.{list_all_at, list_all_more}
use Rattle.input_escapes.specs.Escapes.{Bytes, are_digits, number_written}

-- the first i bytes are digits of the base and write the number
pub record Read (base : ℕ) (digits : Bytes) (i number : ℕ) : Type 0 where
  pub small : number < 16 ^ i
  pub value : number ≡ digits_value base (take i digits)
  pub each : are_digits base (take i digits) ≡ true

within_six : (i : ℕ) → i ≤ 6 → 16 ^ i ≤ 16 ^ 6
within_six i few = let positive : zero < 16 = lit< tt in pow-le-pow_right positive few

pub times_fits : (n base i : ℕ) → n < 16 ^ i → i < 6 → base ≤ 16 → n * base < 16 ^ 6
times_fits n base i small few low =
    let next = pow_more 16 i in
    let most = within_six (i + 1) (omega arith) in
    let product = mul-le-mul_left n low in
    omega arith

more_small : (n base i d : ℕ) → n < 16 ^ i → base ≤ 16 → d < base → n * base + d < 16 ^ (i + 1)
more_small n base i d small low digit =
    let next = pow_more 16 i in
    let above : n + 1 ≤ 16 ^ i = omega arith in
    let product = mul-le-mul above low in
    omega arith

pub more_fits : (n base i d : ℕ) → n < 16 ^ i → i < 6 → base ≤ 16 → d < base → n * base + d < 16 ^ 6
more_fits n base i d small few low digit =
    let most = within_six (i + 1) (omega arith) in
    let next = more_small n base i d small low digit in
    omega arith

-- one more digit
pub read_more : (base : ℕ) (digits : Bytes) (i number d : ℕ) → Read base digits i number → i < length digits → base ≤ 16
    → digit_value (get_or digits i 0) < base → d ≡ digit_value (get_or digits i 0) → Read base digits (i + 1) (number * base + d)
read_more base digits i number d so_far within low digit is = record {
  small = more_small number base i d so_far.small low (omega arith);
  value = ap (λ n. n * base + d) so_far.value ∙ ap (λ k. digits_value base (take i digits) * base + k) is ∙ sym (digits_value_more base digits i within);
  each = list_all_more (λ k. nat_lt (digit_value k) base) digits i 0 within ∙ ap (λ b. b && nat_lt (digit_value (get_or digits i 0)) base) so_far.each
      ∙ lt-ltb (digit_value (get_or digits i 0)) base digit;
}

-- all of the digits
pub all_read : (base : ℕ) (digits : Bytes) (i number : ℕ) → Read base digits i number → length digits ≤ i → Some number ≡ number_written base digits
unfolding number_written
all_read base digits i number so_far past =
    let whole = take_all i digits past in
    let value = so_far.value ∙ ap (digits_value base) whole in
    let each = ap (are_digits base) (sym whole) ∙ so_far.each in
    ap Some value ∙ ap (λ b. if b then Some (digits_value base digits) else None) (sym each)

not_true : (b : Bool) → (b ≡ true → ⊥) → b ≡ false
not_true true never = absurd (never refl)
not_true false _ = refl

-- a byte that is no digit of the base
pub not_read : (base : ℕ) (digits : Bytes) (i : ℕ) → i < length digits → (digit_value (get_or digits i 0) < base → ⊥) → None ≡ number_written base digits
unfolding number_written
not_read base digits i within no_digit =
    let test : Bool = nat_lt (digit_value (get_or digits i 0)) base in
    let fails : nat_lt (digit_value (get_or digits i 0)) base ≡ false = not_true test (λ e. no_digit (ltb-true (digit_value (get_or digits i 0)) base e)) in
    ap (λ b. if b then Some (digits_value base digits) else None) (sym (list_all_at (λ k. nat_lt (digit_value k) base) digits i 0 within fails))
