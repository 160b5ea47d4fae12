use Rattle.std.proofs.Common.{ℕ, ◌+◌, ◌-◌, ◌*◌, ◌≤◌, ◌%◌, length, ap, arith}
use Rattle.bar_base.proofs.Weights.{weighted_more, weighted_end}
use Rattle.linear_codes.specs.Code93.{weight_to, weighted_check}
use Rattle.linear_codes.proofs.code93_symbol.check.Goals as goal

-- a byte by a weight
product_few : (weight value most : ℕ) → weight ≤ most → value ≤ 255 → weight * value ≤ most * 255
product_few weight value most small byte = grind arith

pub loop-place-preserved : goal.loop-place-preserved
loop-place-preserved c =
    let more = weighted_more (weight_to c.args.most) c.args.values.now c.loop-place.place (omega arith) in
    let byte = c.type_inv.values c.loop-place.place in
    let few = product_few ((length c.args.values.now - 1 - c.loop-place.place) % c.args.most + 1) c.from.result 20 (omega arith) (omega (arith, byte, c.from.ensures)) in
    let product = ap (λ (n : ℕ). ((length c.args.values.now - 1 - c.loop-place.place) % c.args.most + 1) * n) c.from.ensures in
    record { sums = omega arith; bounded = omega arith }

pub returns-clause-value : goal.returns-clause-value
unfolding weighted_check
returns-clause-value c =
    let end = weighted_end (weight_to c.args.most) c.args.values.now c.loop-place.place (omega arith) in
    ap (λ (n : ℕ). n % 47) (omega (arith, end, c.loop-place.invariant.sums))
