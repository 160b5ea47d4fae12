use Rattle.std.proofs.Common.{◌≡◌, ◌<◌, ℕ, length, get_or}
use Rattle.aztec_layout.specs.Places.{data_line}
use Rattle.aztec_layout.proofs.placement.write_lines.Given as goal

abbrev pub invariant-loop-number : goal.invariant-loop-number
invariant-loop-number l = record {
  room : length l.lines ≡ length l.initial.lines;
  each : (i : ℕ) → i < l.number → get_or l.lines i 0 ≡ data_line l.size i;
}
