use Rattle.std.proofs.Common.{◌∙◌}
use Rattle.rs_encode.proofs.RowLemmas.{rows_more}
use Rattle.rs_encode.proofs.rows.fill_rows.Goals as goal

pub loop-row-preserved : goal.loop-row-preserved
loop-row-preserved g c = record {
  room = c.fill_row.auto.rows ∙ c.loop-row.invariant.room;
  rows = rows_more g.F.Field.times g.F.Field.power g.F.Field.value g.F.Field.ORDER c.args.exponents.now c.loop-row.rows c.fill_row.new.rows c.loop-row.row
      c.requires.few c.fill_row.ensures.kept c.loop-row.invariant.rows c.fill_row.ensures.row;
}
