use Rattle.std.proofs.Common.{◌≡◌, take}
use Rattle.std.specs.List.{flat_map}
use Rattle.linear_reader.specs.Row.{two_digits}
use Rattle.linear_reader.proofs.valuing.digits.Given as goal

abbrev pub invariant-loop-pair : goal.invariant-loop-pair
invariant-loop-pair l = l.digits.items ≡ flat_map two_digits (take l.pair-index l.pairs)
