use Rattle.std.proofs.Common.{◌≡◌, ◌≤◌, ◌+◌, ◌*◌, drop, slice_index}
use Rattle.code128_best.specs.Symbol.{place_weighted}
use Rattle.code128_best.proofs.symbol.check_of_values.Given as goal

abbrev pub invariant-loop-place : goal.invariant-loop-place
invariant-loop-place l = record {
  few : l.sum ≤ 105 + 1720320 * l.place;
  sums : l.sum + place_weighted l.place (drop l.place l.values) ≡ slice_index l.values 0 + place_weighted 0 l.values;
}
