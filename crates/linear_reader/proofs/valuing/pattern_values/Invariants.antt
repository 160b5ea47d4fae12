use Rattle.std.proofs.Common.{◌≡◌, ◌+◌, ◌-◌, ◌<◌, ◌≤◌, All, drop, length, vec_len}
use Rattle.linear_reader.specs.Patterns.{pattern_count, start_modules}
use Rattle.linear_reader.specs.Row.{pattern_values, values_from, values_and_more}
use Rattle.linear_reader.proofs.valuing.pattern_values.Given as goal

abbrev pub invariant-patterns : goal.invariant-patterns
invariant-patterns l = record {
  within : l.place ≤ length l.modules;
  few : vec_len l.values ≤ l.most;
  short : vec_len l.values + start_modules l.symbology ≤ l.place;
  small : All (λ value. value < pattern_count l.symbology) l.values.items;
  rest :
      values_and_more l.values.items (values_from l.symbology (l.most - vec_len l.values) (vec_len l.values) l.place (drop l.place l.modules))
      ≡ pattern_values l.symbology l.modules;
}

abbrev pub decreases-patterns : goal.decreases-patterns
decreases-patterns l = length l.modules - l.place
