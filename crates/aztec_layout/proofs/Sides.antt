-- a quotient and a remainder by what they are
use Rattle.std.proofs.Common.{◌≡◌, ℕ, ◌+◌, ◌-◌, ◌*◌, ◌/◌, ◌%◌, ◌<◌, ◌≤◌, refl, sym, ap, ◌∙◌, arith}
use Rattle.std.proofs.Math.Nat.{mod-eq-sub-div-mul, mul-add-mod_self_left, mul-le-mul_left, mul_comm, mul_left_comm}
use Rattle.std.proofs.lemmas.Nat.{div-mul-add}
use Rattle.aztec_layout.specs.declared.sizes.Size.{Size}
use Rattle.aztec_layout.specs.Sizes.{base_side}
use Rattle.aztec_layout.specs.Places.{corner_at, corner_of, pairs_on_side}

pub side_is : (number run side rest : ℕ) → number ≡ side * run + rest → rest < run → side ≡ number / run
side_is number run side rest is below = sym (ap (λ (n : ℕ). n / run) is ∙ div-mul-add side run rest below)

pub rest_is : (number run side rest : ℕ) → number ≡ side * run + rest → rest < run → rest ≡ number % run
rest_is number run side rest is below =
    let whole : number / run * run ≡ side * run = ap (λ (n : ℕ). n * run) (sym (side_is number run side rest is below)) in
    sym (mod-eq-sub-div-mul number run ∙ (let e : number - number / run * run ≡ rest = omega (arith, whole) in e))

-- a bit of one of the four sides is one of the layer
pub side_within : (side along pairs : ℕ) → side < 4 → along < 2 * pairs → side * (2 * pairs) + along < 8 * pairs
side_within side along pairs four below =
    let most : 2 * pairs * side ≤ 2 * pairs * 3 = mul-le-mul_left (2 * pairs) (omega arith) in
    let turned : side * (2 * pairs) ≡ 2 * pairs * side = mul_comm side (2 * pairs) in
    omega (arith, most, turned, below)

-- the corner of a bit by its side and its number on it
pub corner_side : (size : Size) (layer side along : ℕ) → along < 2 * pairs_on_side size layer →
    corner_at size layer (side * (2 * pairs_on_side size layer) + along) ≡ corner_of (2 * layer) (base_side size - 1 - 2 * layer) side (along / 2) (along % 2)
corner_side size layer side along below =
    let pairs : ℕ = pairs_on_side size layer in
    let low : ℕ = 2 * layer in
    let high : ℕ = base_side size - 1 - 2 * layer in
    let n : ℕ = side * (2 * pairs) + along in
    let even : n % 2 ≡ along % 2 = ap (λ (k : ℕ). (k + along) % 2) (mul_left_comm side 2 pairs) ∙ mul-add-mod_self_left 2 (side * pairs) along in
    ap (λ (k : ℕ). corner_of low high k (n % (2 * pairs) / 2) (n % 2)) (sym (side_is n (2 * pairs) side along refl below))
    ∙ ap (λ (k : ℕ). corner_of low high side (k / 2) (n % 2)) (sym (rest_is n (2 * pairs) side along refl below))
    ∙ ap (λ (k : ℕ). corner_of low high side (along / 2) k) even
