use Rattle.aztec_layout.proofs.ReadLemmas.{columns_more}
use Rattle.aztec_layout.proofs.core_reading.differing_in_row.Goals as goal

pub loop-x-preserved : goal.loop-x-preserved
loop-x-preserved c =
    columns_more c.args.full c.args.grid.now c.loop-x.x c.args.y c.loop-x.invariant (c.differs.ensures.agrees c.if-differs.false)
