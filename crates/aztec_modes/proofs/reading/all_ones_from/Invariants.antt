use Rattle.std.proofs.Common.{◌≡◌, drop}
use Rattle.aztec_modes.specs.Reading.{all_ones}
use Rattle.aztec_modes.proofs.reading.all_ones_from.Given as goal

abbrev pub invariant-loop-place : goal.invariant-loop-place
invariant-loop-place l = all_ones (drop l.at l.bits) ≡ all_ones (drop l.place l.bits)
