use Rattle.symbol_reader.proofs.ReadOnce.{nothing_lost}
use Rattle.symbol_reader.proofs.reading.known_reading.Goals as goal

pub returns-clause-reading : goal.returns-clause-reading
returns-clause-reading c = nothing_lost c.args.grid.now c.in_ok-read.read.reading c.in_ok-read.read.lost c.in_ok-read.ensures.reading
