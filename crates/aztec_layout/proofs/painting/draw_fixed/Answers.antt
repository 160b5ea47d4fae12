use Rattle.aztec_layout.proofs.Dots.{FixedRow}
use Rattle.aztec_layout.proofs.PaintingLemmas.{paints_next}
use Rattle.aztec_layout.proofs.painting.draw_fixed.Goals as goal

pub loop-y-preserved : goal.loop-y-preserved
loop-y-preserved c =
    paints_next c.args.grid.now c.loop-y.grid c.draw_fixed_row.new.grid (FixedRow c.args.full c.args.centre) c.loop-y.y c.loop-y.invariant
    c.draw_fixed_row.ensures
