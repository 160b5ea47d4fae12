use Rattle.std.proofs.Common.{arith}
use Rattle.symbol_reader.proofs.DrawnReads.{reads_known, reads_lost_back}
use Rattle.symbol_reader.proofs.ReadOnce.{no_lost_fault, only_lost}
use Rattle.symbol_reader.proofs.reading.read_unknown.Goals as goal

pub returns-clause-only : goal.returns-clause-only
returns-clause-only c = only_lost c.args.unknown.now c.unknown_reading.result c.unknown_reading.ensures.reading

pub returns-clause-none : goal.returns-clause-none
returns-clause-none c = no_lost_fault c.args.unknown.now c.unknown_reading.result c.unknown_reading.ensures.refused

pub returns-clause-back : goal.returns-clause-back
returns-clause-back c = reads_lost_back c.args.unknown.now c.unknown_reading.result c.unknown_reading.ensures.reading c.unknown_reading.ensures.refused

pub returns-clause-known : goal.returns-clause-known
returns-clause-known c = reads_known c.args.unknown.now c.unknown_reading.result (omega (arith, c.unknown_reading.ensures.alike)) c.unknown_reading.ensures.reading c.unknown_reading.ensures.refused
