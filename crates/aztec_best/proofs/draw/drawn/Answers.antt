use Rattle.aztec_best.proofs.Drawing.{drawn_fewest, drawn_once}
use Rattle.aztec_best.proofs.Small.{filled_rows}
use Rattle.aztec_best.proofs.draw.drawn.Goals as goal

pub drawn_bits-requires : goal.drawn_bits-requires
drawn_bits-requires c = filled_rows c.rows.result.now c.shortest-fewest.new.bench c.args.elements.now 0 c.rows.ensures c.shortest-fewest.ensures.filled.1

pub returns-clause-fewest : goal.returns-clause-fewest
returns-clause-fewest c = drawn_fewest c.args.append c.args.elements.now c.in_ok-bits.bits c.in_ok-bits.ensures.drawn

pub returns-clause-only : goal.returns-clause-only
returns-clause-only c others drawn = drawn_once c.args.append c.args.elements.now others c.in_ok-bits.bits drawn c.in_ok-bits.ensures.drawn
