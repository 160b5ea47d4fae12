use Rattle.std.proofs.Common.{◌≡◌, ◌+◌, ◌*◌, ◌^◌, ◌≤◌, drop, sum, true}
use Rattle.bar_base.specs.Bits.{number_after}
use Rattle.bar_base.specs.Stripes.{stripes}
use Rattle.bar_base.proofs.stripes.number_of_widths.Given as goal

abbrev pub invariant-loop-width : goal.invariant-loop-width
invariant-loop-width l = record {
  digits : number_after l.number (stripes l.dark (drop l.width-index l.widths)) ≡ number_after 0 (stripes true l.widths);
  bounded : (l.number + 1) * 2 ^ sum (drop l.width-index l.widths) ≤ 2 ^ 16;
}
