use Rattle.std.proofs.Common.{◌≡◌, ◌++◌, ◌-◌, ◌/◌, ◌^◌}
use Rattle.bar_base.specs.Bits.{to_bits}
use Rattle.bar_base.proofs.number_bits.push_bits.Given as goal

abbrev pub invariant-loop-i : goal.invariant-loop-i
invariant-loop-i l = l.bits ≡ l.initial.bits ++ to_bits l.i (l.number / 2 ^ (l.width - l.i))
