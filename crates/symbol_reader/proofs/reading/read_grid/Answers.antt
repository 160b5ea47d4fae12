use Rattle.symbol_reader.proofs.DrawnReads.{reads_back, reads_whole}
use Rattle.symbol_reader.proofs.ReadOnce.{no_fault, only_reading}
use Rattle.symbol_reader.proofs.reading.read_grid.Goals as goal

pub returns-clause-only : goal.returns-clause-only
returns-clause-only c = only_reading c.args.grid.now c.known_reading.result c.known_reading.ensures.reading

pub returns-clause-none : goal.returns-clause-none
returns-clause-none c = no_fault c.args.grid.now c.known_reading.result c.known_reading.ensures.refused

pub returns-clause-back : goal.returns-clause-back
returns-clause-back c = reads_back c.args.grid.now c.known_reading.result c.known_reading.ensures.reading c.known_reading.ensures.refused

pub returns-clause-whole : goal.returns-clause-whole
returns-clause-whole c = reads_whole c.args.grid.now c.known_reading.result c.known_reading.ensures.reading c.known_reading.ensures.refused
