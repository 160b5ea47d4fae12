use Rattle.bar_base.specs.Picture.{module_at}
use Rattle.aztec_layout.specs.Core.{mode_place}
use Rattle.aztec_layout.specs.CoreReading.{middle_of}
use Rattle.aztec_layout.proofs.ReadLemmas.{ReadWords}
use Rattle.aztec_layout.proofs.core_reading.mode_read.Given as goal

abbrev pub invariant-loop-place : goal.invariant-loop-place
invariant-loop-place l =
    ReadWords (λ t. module_at l.grid (mode_place l.full (middle_of l.grid) t).0 (mode_place l.full (middle_of l.grid) t).1) l.place l.words
