use Rattle.std.proofs.Common.{◌∙◌, ap, arith, length}
use Rattle.symbol_reader.proofs.Sights.{length-either, reshaped}
use Rattle.symbol_reader.proofs.darkening.darkened.Goals as goal

pub of_rows-requires : goal.of_rows-requires
of_rows-requires c = record {
  shape = reshaped c.args.grid.now c.width.result c.deref.result.now c.in_ok-modules.modules.items c.width.ensures.shape c.width.ensures.width
      (c.deref.ensures.value ∙ c.in_ok-heights.ensures)
      (ap length c.in_ok-modules.ensures ∙ length-either c.args.grid.now.modules c.args.lost.now.modules (omega (arith, c.module_count-count.ensures)));
}
