-- nothing fixed is dark at a bare module
use Rattle.std.proofs.Common.{◌≡◌, inl, inr, ℕ, ◌+◌, ◌-◌, ◌%◌, ◌<◌, ◌≤◌, Bool, true, false, ◌&&◌, ◌||◌, nat_le, max, refl, ap, ◌∙◌, arith}
use Rattle.std.specs.Prelude.{◌==◌}
use Rattle.std.specs.Int.{abs_diff}
use Rattle.std.proofs.lemmas.Bool.{and_parts, eqb-true, le-ltb, cases_Bool, ne_eqb}
use Rattle.aztec_layout.specs.Core.{IsBare, ring_of, rim_of, is_finder, is_dark_finder, is_dark_mark, is_dark_reference, is_dark_fixed}

rim_few : (full : Bool) → rim_of full ≤ 7
rim_few true = omega arith
rim_few false = omega arith

no_finder : (full : Bool) (centre x y : ℕ) → IsBare centre x y → is_dark_finder full centre x y ≡ false
no_finder full centre x y bare =
    let none : is_finder full centre x y ≡ false = le-ltb (ring_of centre x y) (rim_of full) (omega (arith, bare.outside, rim_few full)) in
    ap (λ (b : Bool). b && (ring_of centre x y % 2 == 0)) none

pub off_line : (full at_rim column row even : Bool) → column ≡ false → row ≡ false → ((full && (at_rim && (column || row))) && even) ≡ false
off_line full at_rim column row even no_column no_row = grind arith

no_reference : (full : Bool) (centre x y : ℕ) → IsBare centre x y → is_dark_reference full centre x y ≡ false
no_reference full centre x y bare =
    off_line full (nat_le (rim_of full) (ring_of centre x y)) (abs_diff x centre % 16 == 0) (abs_diff y centre % 16 == 0) ((abs_diff x centre + abs_diff y centre) % 2 == 0)
    (ne_eqb (abs_diff x centre % 16) 0 bare.column) (ne_eqb (abs_diff y centre % 16) 0 bare.row)

no_place : (x y a b : ℕ) → (x ≡ a → y ≡ b → ⊥) → ((x == a) && (y == b)) ≡ false
no_place x y a b apart =
    elim (cases_Bool ((x == a) && (y == b))) [
      | inl here ↦ absurd (let parts = and_parts (x == a) (y == b) here in apart (eqb-true x a parts.0) (eqb-true y b parts.1))
      | inr off ↦ off
    ]

near : (centre rim a b x y : ℕ) → rim ≤ 7 → 7 < max (abs_diff x centre) (abs_diff y centre) → a ≤ centre + rim → centre ≤ a + rim → b ≤ centre + rim → centre ≤ b + rim → x ≡ a → y ≡ b → ⊥
near centre rim a b x y few far a_high a_low b_high b_low is_x is_y = omega arith

no_mark : (full : Bool) (centre x y : ℕ) → rim_of full ≤ centre → IsBare centre x y → is_dark_mark full centre x y ≡ false
no_mark full centre x y room bare =
    let rim : ℕ = rim_of full in
    let few : rim ≤ 7 = rim_few full in
    let some : 5 ≤ rim = rim_some full in
    let low : ℕ = centre - rim in
    let high : ℕ = centre + rim in
    rw (
      no_place x y low low (near centre rim low low x y few bare.outside (omega arith) (omega arith) (omega arith) (omega arith)),
      no_place x y (low + 1) low (near centre rim (low + 1) low x y few bare.outside (omega arith) (omega arith) (omega arith) (omega arith)),
      no_place x y low (low + 1) (near centre rim low (low + 1) x y few bare.outside (omega arith) (omega arith) (omega arith) (omega arith)),
      no_place x y high low (near centre rim high low x y few bare.outside (omega arith) (omega arith) (omega arith) (omega arith)),
      no_place x y high (low + 1) (near centre rim high (low + 1) x y few bare.outside (omega arith) (omega arith) (omega arith) (omega arith)),
      no_place x y high (high - 1) (near centre rim high (high - 1) x y few bare.outside (omega arith) (omega arith) (omega arith) (omega arith)),
    ) refl
  where
    rim_some : (full : Bool) → 5 ≤ rim_of full
    rim_some true = omega arith
    rim_some false = omega arith

pub bare_light : (full : Bool) (centre x y : ℕ) → rim_of full ≤ centre → IsBare centre x y → is_dark_fixed full centre x y ≡ false
bare_light full centre x y room bare =
    ap (λ (b : Bool). b || (is_dark_mark full centre x y || is_dark_reference full centre x y)) (no_finder full centre x y bare)
    ∙ ap (λ (b : Bool). b || is_dark_reference full centre x y) (no_mark full centre x y room bare)
    ∙ no_reference full centre x y bare
