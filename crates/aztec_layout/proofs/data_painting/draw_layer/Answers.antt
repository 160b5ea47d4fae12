use Rattle.std.proofs.Common.{◌≡◌, arith}
use Rattle.aztec_layout.specs.SymbolGrid.{IsSideDot}
use Rattle.aztec_layout.proofs.Dots.{layer_done}
use Rattle.aztec_layout.proofs.PaintingLemmas.{paints_next}
use Rattle.aztec_layout.proofs.data_painting.draw_layer.Goals as goal

pub loop-side-preserved : goal.loop-side-preserved
loop-side-preserved c =
    paints_next c.args.grid.now c.loop-side.grid c.draw_side.new.grid (IsSideDot c.args.size c.args.bits.now c.args.layer) c.loop-side.side
    c.loop-side.invariant c.draw_side.ensures

pub returns : goal.returns
returns c =
    layer_done c.args.size c.args.bits.now c.args.layer c.loop-side.side c.args.grid.now c.loop-side.grid
    (let e : c.loop-side.side ≡ 4 = omega arith in e) c.loop-side.invariant
