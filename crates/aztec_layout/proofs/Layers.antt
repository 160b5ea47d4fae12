-- The bits of the layers: how many there are, and which bit of a layer is which.
use Rattle.std.proofs.Common.{◌≡◌, ℕ, ◌+◌, ◌-◌, ◌*◌, ◌/◌, ◌%◌, ◌<◌, ◌≤◌, Bool, true, false, zero, suc, ap, sym, ◌∙◌, zero-add, ⊎_elim, arith}
use Rattle.std.proofs.lemmas.Bool.{cases_lt}
use Rattle.std.proofs.lemmas.Nat.{div-add-mod', div_below, mod_below}
use Rattle.aztec_layout.specs.declared.sizes.Size.{Size}
use Rattle.aztec_layout.specs.Sizes.{base_side, layer_bits}
use Rattle.aztec_layout.specs.Places.{bits_before, pairs_on_side}
use Rattle.aztec_layout.proofs.SizeParts.{size_at}

pairs_base_at : (f : Bool) (n i : ℕ) → i < n → pairs_on_side (size_at f n) i + 4 * i + 2 ≡ base_side (size_at f n)
pairs_base_at true n i inside = omega arith
pairs_base_at false n i inside = omega arith

-- a side of a layer with the two layers' ends at both ends is the whole side
pub pairs_base : (s : Size) (i : ℕ) → i < s.layers → pairs_on_side s i + 4 * i + 2 ≡ base_side s
pairs_base s = pairs_base_at s.full s.layers

-- the bits before a layer, in closed form
pub bits_before-closed : (s : Size) (i : ℕ) → i ≤ s.layers → bits_before s i + 16 * (i * i) ≡ 8 * (i * base_side s)
bits_before-closed s zero inside = omega arith
bits_before-closed s (suc i) inside =
    let known : bits_before s i + 16 * (i * i) ≡ 8 * (i * base_side s) = bits_before-closed s i (omega arith) in
    let side : pairs_on_side s i + 4 * i + 2 ≡ base_side s = pairs_base s i inside in
    omega (arith, known, side)

bits_before-all_at : (f : Bool) (n : ℕ) → bits_before (size_at f n) n + 16 * (n * n) ≡ 8 * (n * base_side (size_at f n)) →
    bits_before (size_at f n) n ≡ layer_bits (size_at f n)
bits_before-all_at true n closed = omega (arith, closed)
bits_before-all_at false n closed = omega (arith, closed)

-- all layers have all bits
pub bits_before-all : (s : Size) → bits_before s s.layers ≡ layer_bits s
bits_before-all s = bits_before-all_at s.full s.layers (bits_before-closed s s.layers (omega arith))

-- more layers have no fewer bits
pub bits_before_le : (s : Size) (i k : ℕ) → bits_before s i ≤ bits_before s (k + i)
bits_before_le s i zero =
    let same : bits_before s (0 + i) ≡ bits_before s i = ap (bits_before s) (zero-add i) in
    omega (arith, same)
bits_before_le s i (suc k) =
    let h : bits_before s i ≤ bits_before s (k + i) = bits_before_le s i k in
    let same : bits_before s (suc k + i) ≡ bits_before s (suc (k + i)) =
    ap (bits_before s) (let e : suc k + i ≡ suc (k + i) = omega arith in e) in
    omega (arith, h, same)

past_layer : (s : Size) (i j q : ℕ) → bits_before s j ≤ q → q < bits_before s (suc i) → i < j → j ≤ i
past_layer s i j q from below past =
    let same : bits_before s ((j - suc i) + suc i) ≡ bits_before s j =
    ap (bits_before s) (let e : (j - suc i) + suc i ≡ j = omega arith in e) in
    absurd (omega (arith, same, bits_before_le s (suc i) (j - suc i)))

-- a bit before the end of layer i is in no layer after it
pub layer_le : (s : Size) (i j q : ℕ) → bits_before s j ≤ q → q < bits_before s (suc i) → j ≤ i
layer_le s i j q from below = ⊎_elim (past_layer s i j q from below) (λ h. h) (cases_lt i j)

-- bit n of a side's pairs by its side, pair and bit
pub bit_parts : (pairs n : ℕ) → n ≡ (n / (2 * pairs)) * (2 * pairs) + 2 * (n % (2 * pairs) / 2) + n % 2
bit_parts pairs n = omega (arith, div-add-mod' n (2 * pairs))

-- a bit of layer i has a side below 4, and its pair lies before the ends of the layer
pub record IsInLayer (s : Size) (i n : ℕ) : Type 0 where
  pub round : n / (2 * pairs_on_side s i) < 4
  pub pair : n % (2 * pairs_on_side s i) / 2 + 4 * i + 2 < base_side s
  pub bit : n % 2 < 2

pub in_layer : (s : Size) (i n : ℕ) → i < s.layers → n < 8 * pairs_on_side s i → IsInLayer s i n
in_layer s i n inside few =
    let side : pairs_on_side s i + 4 * i + 2 ≡ base_side s = pairs_base s i inside in
    let wide : 0 < 2 * pairs_on_side s i = omega (arith, few) in
    let within : n % (2 * pairs_on_side s i) < 2 * pairs_on_side s i = mod_below n (2 * pairs_on_side s i) wide in
    record {
      round = div_below n (2 * pairs_on_side s i) 4 wide (omega (arith, few));
      pair = omega (arith, side, within);
      bit = mod_below n 2 (omega arith);
    }

closed_form : (i d base before : ℕ) → d + 2 * i ≡ base → before + 16 * (i * i) ≡ 8 * (i * base) → 8 * i * d ≡ before
closed_form i d base before whole closed =
    let closed' : before + 16 * (i * i) ≡ 8 * (i * (d + 2 * i)) = closed ∙ ap (λ (b : ℕ). 8 * (i * b)) (sym whole) in
    omega arith

-- the first bit of a layer as a product
pub bits_before-product : (s : Size) (i : ℕ) → i < s.layers → 8 * i * (base_side s - 2 * i) ≡ bits_before s i
bits_before-product s i inside =
    let side : pairs_on_side s i + 4 * i + 2 ≡ base_side s = pairs_base s i inside in
    closed_form i (base_side s - 2 * i) (base_side s) (bits_before s i) (omega (arith, side)) (bits_before-closed s i (omega arith))
