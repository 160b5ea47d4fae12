-- Bits as a number: the bits of a number write it.
use Rattle.std.proofs.Common.{◌≡◌, ℕ, zero, suc, ◌+◌, ◌*◌, ◌/◌, ◌%◌, ◌^◌, ◌<◌, inl, inr, Bool, List, [], ◌∷◌, ◌++◌, refl, sym, ap, ◌∙◌, arith}
use Rattle.std.specs.Prelude.{◌==◌, if◌then◌else◌}
use Rattle.std.proofs.lemmas.Bool.{cond-true, cond-false, eq-eqb, ne_eqb, cases_lt}
use Rattle.std.proofs.Math.Nat.{pow-suc}
use Rattle.bar_base.specs.Bits.{to_bits, number_after}

-- The number that bits write.
unfoldable pub value : List Bool → ℕ
value bits = number_after 0 bits

pub number_after-push : (front : ℕ) (bits : List Bool) (bit : Bool) → number_after front (bits ++ bit ∷ []) ≡ number_after front bits * 2 + (if bit then 1 else 0)
unfolding number_after
number_after-push front [] bit = refl
number_after-push front (first ∷ bits) bit = number_after-push (front * 2 + (if first then 1 else 0)) bits bit

low_bit : (n : ℕ) → (if n % 2 == 1 then 1 else 0) ≡ n % 2
low_bit n =
    elim (cases_lt (n % 2) 1) [
      | inl even ↦ cond-false (n % 2 == 1) 1 0 (ne_eqb (n % 2) 1 (λ h. absurd (omega arith))) ∙ (let e : 0 ≡ n % 2 = omega arith in e)
      | inr odd ↦ let e : n % 2 ≡ 1 = omega arith in cond-true (n % 2 == 1) 1 0 (eq-eqb (n % 2) 1 e) ∙ sym e
    ]

pub value-to_bits : (width n : ℕ) → n < 2 ^ width → value (to_bits width n) ≡ n
unfolding value to_bits number_after
value-to_bits zero n fits = omega arith
value-to_bits (suc width) n fits =
    let h : value (to_bits width (n / 2)) ≡ n / 2 = value-to_bits width (n / 2) (omega (arith, pow-suc 2 width)) in
    number_after-push 0 (to_bits width (n / 2)) (n % 2 == 1)
    ∙ ap (λ (x : ℕ). x * 2 + (if n % 2 == 1 then 1 else 0)) h
    ∙ ap (λ (x : ℕ). n / 2 * 2 + x) (low_bit n)
    ∙ (let e : n / 2 * 2 + n % 2 ≡ n = omega arith in e)
