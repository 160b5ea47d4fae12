use Rattle.std.proofs.Common.{◌≡◌, ◌++◌, [], slice_index_or, take}
use Rattle.std.specs.List.{flat_map}
use Rattle.linear_codes.proofs.patterns.push_patterns.Given as goal

abbrev pub invariant-loop-value : goal.invariant-loop-value
invariant-loop-value g l = l.widths.items ≡ l.initial.widths.items ++ flat_map (λ value. l.gap ++ slice_index_or l.table value []) (take l.value-index l.values)
