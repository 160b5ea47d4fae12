use Rattle.std.proofs.Common.{◌≡◌, ◌≤◌, ◌+◌, ◌<◌, Some, length, take, sum, get_or, ap, ◌∙◌, arith}
use Rattle.std.specs.List.{slice_get}
use Rattle.std.proofs.lemmas.List.{take_all}
use Rattle.std.proofs.lemmas.List.Sums.{sum_by_more}
use Rattle.std.proofs.lemmas.Option.{slice_get_within, get_or_from_slice_get}
use Rattle.bar_base.specs.Paint.{modules_high}
use Rattle.bar_base.proofs.painted.modules_high.Goals as goal

pub loop-y-preserved : goal.loop-y-preserved
loop-y-preserved c =
    let heights = c.args.grid.now.heights in
    let y = c.loop-y.y in
    let height = c.height-high.result in
    let here : slice_get heights y ≡ Some height = c.height-high.ensures.height in
    let inside : y < length heights = slice_get_within heights y height here in
    let more : sum (take (y + 1) heights) ≡ sum (take y heights) + get_or heights y 0 = sum_by_more (λ x. x) heights y 0 inside in
    let is : get_or heights y 0 ≡ height = get_or_from_slice_get heights y height 0 here in
    let most : get_or heights y 0 ≤ 200 = (c.rows-y-end.ensures.shape.heights y 0 inside).1 in
    (omega arith, omega arith)

pub returns-clause-high : goal.returns-clause-high
unfolding modules_high
returns-clause-high c =
    let heights = c.args.grid.now.heights in
    let past : length heights ≤ c.loop-y.y = omega (arith, c.rows-y-end.ensures.rows, c.loop-y-test.false) in
    c.loop-y.invariant.0 ∙ ap sum (take_all c.loop-y.y heights past)
