use Rattle.std.proofs.Common.{◌∙◌, ap, sym, length}
use Rattle.symbol_reader.proofs.Sights.{reshaped}
use Rattle.symbol_reader.proofs.UnknownTexts.{same_count}
use Rattle.symbol_reader.proofs.unknown_parsing.lost_picture.Goals as goal

pub of_rows-requires : goal.of_rows-requires
of_rows-requires c = record {
  shape = reshaped c.args.grid.now c.width-width.result c.deref.result.now c.in_ok-modules.modules.items c.width-width.ensures.shape c.width-width.ensures.width
      (c.deref.ensures.value ∙ c.in_ok-heights.ensures)
      (ap length c.in_ok-modules.ensures ∙ same_count c.args.bytes.now ∙ sym (ap length c.requires));
}
