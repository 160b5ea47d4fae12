use Rattle.aztec_layout.proofs.ReadLemmas.{rows_more}
use Rattle.aztec_layout.proofs.core_reading.finder.Goals as goal

pub loop-y-preserved : goal.loop-y-preserved
loop-y-preserved c = rows_more c.args.full c.args.grid.now c.loop-y.y c.loop-y.invariant c.in-None.ensures.agrees
