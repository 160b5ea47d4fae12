use Rattle.std.proofs.Common.{◌≡◌, ◌++◌, take}
use Rattle.std.specs.List.{flat_map}
use Rattle.code128_best.specs.Symbol.{widths128}
use Rattle.code128_best.proofs.symbol.push_widths.Given as goal

abbrev pub invariant-loop-value : goal.invariant-loop-value
invariant-loop-value l = l.widths.items ≡ l.initial.widths.items ++ flat_map widths128 (take l.value-index l.values)
