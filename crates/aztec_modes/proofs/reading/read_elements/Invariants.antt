use Rattle.std.proofs.Common.{◌-◌, length}
use Rattle.aztec_modes.specs.Reading.{OnReading}
use Rattle.aztec_modes.proofs.reading.read_elements.Given as goal

abbrev pub invariant-loop-mode : goal.invariant-loop-mode
invariant-loop-mode l = OnReading l.width l.bits l.at l.mode l.elements

abbrev pub decreases-loop-mode : goal.decreases-loop-mode
decreases-loop-mode l = length l.bits - l.at
