use Rattle.std.proofs.Common.{subst}
use Rattle.linear_reader.specs.declared.symbology.RowSymbology.{RowSymbology}
use Rattle.linear_reader.specs.Drawn.{ReadsDrawn}
use Rattle.linear_reader.proofs.DrawnReads.{reads_drawn}
use Rattle.linear_reader.proofs.reading.read_row.Goals as goal

pub returns-clause-drawn : goal.returns-clause-drawn
returns-clause-drawn c =
    subst (λ (s : RowSymbology). ReadsDrawn s c.args.grid.now.modules c.row_scan.result) c.symbology_of.ensures
    (reads_drawn c.symbology_of.result c.args.grid.now.modules c.row_scan.result c.row_scan.ensures)
