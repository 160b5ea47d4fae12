use Rattle.std.proofs.Common.{◌≤◌, ◌*◌, ◌%◌, ℕ, slice_index, sym, ap, ◌∙◌, arith}
use Rattle.code128_best.proofs.SymbolLaws.{weighted_more, weighted_end, check_is, weight_few}
use Rattle.code128_best.proofs.symbol.check_of_values.Goals as goal

pub loop-place-preserved : goal.loop-place-preserved
loop-place-preserved c =
    let small : slice_index c.args.values.now c.loop-place.place ≤ 105 = c.requires.small c.loop-place.place 0 c.loop-place-test.true in
    let more = weighted_more c.args.values.now c.loop-place.place c.loop-place-test.true in
    let few = weight_few c.loop-place.place c.from.result (omega arith) (omega (arith, small, c.from.ensures)) in
    let product = ap (λ (n : ℕ). c.loop-place.place * n) c.from.ensures in
    record { few = omega arith; sums = omega arith }

pub returns-clause-value : goal.returns-clause-value
returns-clause-value c =
    ap (λ (n : ℕ). n % 103) (omega (arith, weighted_end c.args.values.now c.loop-place.place (omega arith), c.loop-place.invariant.sums)) ∙ sym (check_is c.args.values.now (omega arith))
