use Rattle.std.proofs.Common.{◌≡◌, ◌+◌, ◌^◌, ◌≤◌, drop, map, true}
use Rattle.bar_base.specs.Bits.{number_after}
use Rattle.bar_base.specs.Stripes.{stripes}
use Rattle.linear_codes.specs.Itf14.{element_width, in_turn}
use Rattle.linear_codes.proofs.itf14_table.pattern_pair.Given as goal

abbrev pub invariant-loop-place : goal.invariant-loop-place
invariant-loop-place l = record {
  digits :
      number_after l.number (stripes true (map element_width (in_turn (drop l.place l.bars) (drop l.place l.spaces))))
      ≡ number_after 0 (stripes true (map element_width (in_turn l.bars l.spaces)));
  bounded : l.number + 1 ≤ 64 ^ l.place;
}
