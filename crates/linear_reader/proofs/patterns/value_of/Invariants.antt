use Rattle.std.proofs.Common.{◌≡◌, ◌-◌, ◌==◌}
use Rattle.linear_reader.specs.Patterns.{first_from, pattern_count, value_pattern}
use Rattle.linear_reader.proofs.patterns.value_of.Given as goal

abbrev pub invariant-loop-value : goal.invariant-loop-value
invariant-loop-value l =
    first_from (λ value. value_pattern l.symbology value == l.number) (pattern_count l.symbology - l.value) l.value
    ≡ first_from (λ value. value_pattern l.symbology value == l.number) (pattern_count l.symbology) 0
