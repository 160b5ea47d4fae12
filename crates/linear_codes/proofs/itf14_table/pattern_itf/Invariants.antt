use Rattle.std.proofs.Common.{◌≡◌, ◌<◌, ◌^◌, map, drop}
use Rattle.bar_base.specs.Bits.{number_after}
use Rattle.linear_codes.specs.Itf14.{is_wide, digit_elements}
use Rattle.linear_codes.proofs.itf14_table.pattern_itf.Given as goal

abbrev pub invariant-loop-element : goal.invariant-loop-element
invariant-loop-element l = record {
  digits : number_after l.number (map is_wide (drop l.element-index l.element-items)) ≡ number_after 0 (map is_wide (digit_elements l.digit));
  small : l.number < 2 ^ l.element-index;
}
