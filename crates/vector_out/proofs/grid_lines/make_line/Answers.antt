use Rattle.std.proofs.Common.{refl}
use Rattle.std.proofs.lemmas.List.{map-append}
use Rattle.bar_base.specs.GridText.{module_text}
use Rattle.bar_base.specs.Picture.{row_of}
use Rattle.bar_base.proofs.ListLemmas.{take_next}
use Rattle.bar_base.proofs.PictureLemmas.{row_module}
use Rattle.std.proofs.Common.{◌<◌}
use Rattle.vector_out.proofs.grid_lines.make_line.Goals as goal

pub loop-x-preserved : goal.loop-x-preserved
loop-x-preserved c =
    let inside : c.loop-x.x < c.args.grid.now.width = rw (← c.width-x-end.ensures.width) c.loop-x-test.true in
    rw (
      c.push.ensures.items,
      c.loop-x.invariant,
      c.digit.ensures,
      take_next (row_of c.args.grid.now c.args.y) c.loop-x.x c.dark.result
          (row_module c.args.grid.now c.loop-x.x c.args.y c.dark.result inside c.dark.ensures.«module»),
      map-append module_text,
    )
    refl
