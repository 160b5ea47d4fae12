use Rattle.std.proofs.Common.{◌≡◌, ◌+◌, ◌≤◌, drop, length}
use Rattle.linear_reader.specs.Checks.{first_wrong}
use Rattle.linear_reader.proofs.checking.first_wrong.Given as goal

abbrev pub invariant-loop-at : goal.invariant-loop-at
invariant-loop-at l = record {
  within : l.at ≤ length l.wanted;
  rest : first_wrong (l.place + l.at) (drop l.at l.given) (drop l.at l.wanted) ≡ first_wrong l.place l.given l.wanted;
}
