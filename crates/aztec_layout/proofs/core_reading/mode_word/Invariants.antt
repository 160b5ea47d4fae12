use Rattle.std.proofs.Common.{◌+◌, ◌*◌}
use Rattle.bar_base.specs.Picture.{module_at}
use Rattle.aztec_layout.specs.Core.{mode_place}
use Rattle.aztec_layout.specs.CoreReading.{middle_of}
use Rattle.aztec_layout.proofs.ReadLemmas.{ReadsAs}
use Rattle.aztec_layout.proofs.core_reading.mode_word.Given as goal

abbrev pub invariant-loop-i : goal.invariant-loop-i
invariant-loop-i l =
    ReadsAs (λ i. module_at l.grid (mode_place l.full (middle_of l.grid) (4 * l.place + i)).0 (mode_place l.full (middle_of l.grid) (4 * l.place + i)).1) l.i l.word
