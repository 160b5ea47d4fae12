-- The modules of the first bits of codewords: which codewords there are, and that no two stand at one module.
use Rattle.std.proofs.Common.{◌≡◌, ℕ, zero, suc, ◌+◌, ◌*◌, ◌/◌, ◌%◌, ◌<◌, ◌≤◌, ◌⊎◌, length, sym, ap, subst, ◌∙◌, inl, inr, arith}
use Rattle.std.proofs.Math.Nat.{div-mul-le_self, mul-le-mul_right}
use Rattle.std.proofs.lemmas.Bool.{cases_lt}
use Rattle.std.proofs.lemmas.Bool.Decides.{nat_tests}
use Rattle.std.proofs.lemmas.Nat.{div-add-mod', mod_below}
use Rattle.bar_base.specs.Picture.{Picture}
use Rattle.aztec_layout.specs.declared.sizes.Size.{Size}
use Rattle.aztec_layout.specs.DataReading.{HasSide}
use Rattle.aztec_layout.specs.Sizes.{codeword_width, lead_bits}
use Rattle.aztec_layout.proofs.Spots.{SamePlace, place_apart, place_only}
use Rattle.zint_demo.specs.Damage.{IsFirstBit, IsSpacedFirstBit, IsTurned}
use Rattle.zint_demo.proofs.Turning.{turned_both, turned_none, turned_same}

-- a codeword has bits
pub width_some : (size : Size) → 1 ≤ codeword_width size
width_some size = grind (arith, nat_tests)

-- the module of a bit turned
pub turned_at_bit : (size : Size) (codeword x y : ℕ) (g h : Picture) → IsFirstBit size codeword x y → IsTurned g h (λ a b. (a ≡ x) × (b ≡ y))
    → IsTurned g h (IsFirstBit size codeword)
turned_at_bit size codeword x y g h there p =
    turned_same g h (λ a b. (a ≡ x) × (b ≡ y)) (IsFirstBit size codeword) p
    (λ a b q. subst (λ (u : ℕ). IsFirstBit size codeword u b) (sym q.0) (subst (λ (v : ℕ). IsFirstBit size codeword x v) (sym q.1) there))
    (λ a b q. let only : SamePlace a x b y = place_only size (lead_bits size + codeword * codeword_width size) a b x y q there in (only.column, only.row))

-- a codeword behind another has its first bit behind the other's
behind : (size : Size) (codeword other : ℕ) → codeword < other
    → lead_bits size + codeword * codeword_width size ≡ lead_bits size + other * codeword_width size → ⊥
behind size codeword other before same =
    let more : (codeword + 1) * codeword_width size ≤ other * codeword_width size = mul-le-mul_right (codeword_width size) (omega (arith, before)) in
    let one : (codeword + 1) * codeword_width size ≡ codeword * codeword_width size + codeword_width size = omega arith in
    omega (arith, more, one, same, width_some size)

-- two codewords do not have their first bits at one module
pub first_bits_apart : (size : Size) (codeword other x y : ℕ) → codeword < other → IsFirstBit size codeword x y → IsFirstBit size other x y → ⊥
first_bits_apart size codeword other x y before p q =
    behind size codeword other before
    (place_apart size (lead_bits size + codeword * codeword_width size) (lead_bits size + other * codeword_width size) x y p q)

-- one of the codewords is one of the first, or the last
last_or_before : (size : Size) (step n x y : ℕ) → IsSpacedFirstBit size step (n + 1) x y → IsSpacedFirstBit size step n x y ⊎ IsFirstBit size (n * step) x y
last_or_before size step n x y p = at p.0 p.1 p.2 (cases_lt p.0 n)
  where
    at : (i : ℕ) → i < n + 1 → IsFirstBit size (i * step) x y → (i < n) ⊎ (n ≤ i) → IsSpacedFirstBit size step n x y ⊎ IsFirstBit size (n * step) x y
    at i inside here (inl before) = inl (i, before, here)
    at i inside here (inr past) = inr (subst (λ (j : ℕ). IsFirstBit size (j * step) x y) (let e : i ≡ n = omega (arith, inside, past) in e) here)

-- an earlier codeword
earlier : (step i n : ℕ) → 1 ≤ step → i < n → i * step < n * step
earlier step i n some before =
    let more : (i + 1) * step ≤ n * step = mul-le-mul_right step (omega (arith, before)) in
    let one : (i + 1) * step ≡ i * step + step = omega arith in
    omega (arith, more, one, some)

-- none so far
pub first_bits_none : (size : Size) (step : ℕ) (g : Picture) → IsTurned g g (IsSpacedFirstBit size step 0)
first_bits_none size step g = turned_none g (IsSpacedFirstBit size step 0) (λ x y p. let below : p.0 < 0 = p.1 in omega (arith, below))

-- one codeword more
pub first_bits_next : (size : Size) (step n : ℕ) (g h k : Picture) → 1 ≤ step → IsTurned g h (IsSpacedFirstBit size step n) → IsTurned h k (IsFirstBit size (n * step))
    → IsTurned g k (IsSpacedFirstBit size step (n + 1))
first_bits_next size step n g h k some first then =
    turned_both g h k (IsSpacedFirstBit size step n) (IsFirstBit size (n * step)) (IsSpacedFirstBit size step (n + 1)) first then
    (λ x y p q. let before : p.0 < n = p.1 in first_bits_apart size (p.0 * step) (n * step) x y (earlier step p.0 n some before) p.2 q)
    (λ x y p. let before : p.0 < n = p.1 in (p.0, (let e : p.0 < n + 1 = omega (arith, before) in e), p.2))
    (λ x y q. (n, (let e : n < n + 1 = omega arith in e), q))
    (λ x y r. last_or_before size step n x y r)

-- there is a codeword for each where there are no fewer
pub step_some : (all count : ℕ) → 0 < count → count ≤ all → 1 ≤ all / count
step_some all count some few = at (all / count) (sym (div-add-mod' all count)) (mod_below all count some)
  where
    at : (q : ℕ) → all ≡ q * count + all % count → all % count < count → 1 ≤ q
    at zero whole small = absurd (omega (arith, whole, small, few))
    at (suc q) whole small = omega arith

-- so many codewords, so far apart, are all there
pub within : (all count step i : ℕ) → step ≡ all / count → 1 ≤ step → i < count → i * step < all
within all count step i step_is some inside =
    let before : i * step < count * step = earlier step i count some inside in
    let fits : all / count * count ≤ all = div-mul-le_self all count in
    let same : count * step ≡ all / count * count = ap (λ (k : ℕ). count * k) step_is ∙ (let e : count * (all / count) ≡ all / count * count = omega arith in e) in
    omega (arith, before, fits, same)

-- a picture keeps its side
pub side_kept : (size : Size) (P : ℕ → ℕ → Type 0) (g h : Picture) → HasSide g size → IsTurned g h P → HasSide h size
side_kept size P g h side turning = record {
  sized = side.sized;
  width = turning.width ∙ side.width;
  rows = ap length turning.heights ∙ side.rows;
}
