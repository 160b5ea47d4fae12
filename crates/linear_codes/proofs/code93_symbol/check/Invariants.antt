use Rattle.std.proofs.Common.{◌≡◌, ◌+◌, ◌*◌, ◌≤◌, drop}
use Rattle.linear_codes.specs.Code93.{weight_to}
use Rattle.bar_base.specs.CheckDigit.{weighted}
use Rattle.linear_codes.proofs.code93_symbol.check.Given as goal

abbrev pub invariant-loop-place : goal.invariant-loop-place
invariant-loop-place l = record {
  sums : l.sum + weighted (weight_to l.most) (drop l.place l.values) ≡ weighted (weight_to l.most) l.values;
  bounded : l.sum ≤ 5100 * l.place;
}
