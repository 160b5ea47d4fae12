use Rattle.std.proofs.Common.{ℕ, ◌+◌, ◌*◌}
use Rattle.bar_base.specs.Picture.{module_at}
use Rattle.aztec_layout.specs.Core.{mode_place}
use Rattle.aztec_layout.specs.CoreReading.{middle_of}
use Rattle.aztec_layout.proofs.ReadLemmas.{mode_module, reads_more}
use Rattle.aztec_layout.proofs.core_reading.mode_word.Goals as goal

pub loop-i-preserved : goal.loop-i-preserved
loop-i-preserved c =
    reads_more
    (λ (i : ℕ). module_at c.args.grid.now (mode_place c.args.full (middle_of c.args.grid.now) (4 * c.args.place + i)).0
    (mode_place c.args.full (middle_of c.args.grid.now) (4 * c.args.place + i)).1)
    c.loop-i.i c.loop-i.word c.from.result c.dark.result c.loop-i.invariant
    (mode_module c.args.full c.args.grid.now c.width-centre.result (4 * c.args.place + c.loop-i.i) c.mode_place-x.result.0 c.mode_place-x.result.1
    c.dark.result c.width-centre.ensures.width c.mode_place-x.ensures.column c.mode_place-x.ensures.row c.dark.ensures.module)
    c.from.ensures
