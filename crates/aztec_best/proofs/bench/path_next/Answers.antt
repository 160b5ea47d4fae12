use Rattle.aztec_best.proofs.Drawing.{next_begins}
use Rattle.aztec_best.proofs.Small.{filled_rows}
use Rattle.aztec_best.proofs.bench.path_next.Goals as goal

pub next_code-requires-clause-filled : goal.next_code-requires-clause-filled
next_code-requires-clause-filled c = filled_rows c.rows.result.now c.args.bench.now c.args.elements.now 0 c.rows.ensures c.requires.filled.1

pub returns : goal.returns
returns c = record {
  first = next_begins c.rows.result.now c.args.elements.now (filled_rows c.rows.result.now c.args.bench.now c.args.elements.now 0 c.rows.ensures c.requires.filled.1)
      c.len.ensures.elements c.args.at.place c.args.at.mode c.next_code.result c.requires.within c.next_code.ensures;
}
