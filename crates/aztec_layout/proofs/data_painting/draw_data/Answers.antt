use Rattle.std.proofs.Common.{◌≡◌, arith}
use Rattle.aztec_layout.specs.SymbolGrid.{IsLayerDot}
use Rattle.aztec_layout.proofs.Dots.{data_done}
use Rattle.aztec_layout.proofs.PaintingLemmas.{paints_next}
use Rattle.aztec_layout.proofs.data_painting.draw_data.Goals as goal

pub loop-layer-preserved : goal.loop-layer-preserved
loop-layer-preserved c =
    paints_next c.args.grid.now c.loop-layer.grid c.draw_layer.new.grid (IsLayerDot c.args.size c.args.bits.now) c.loop-layer.layer
    c.loop-layer.invariant c.draw_layer.ensures

pub returns : goal.returns
returns c =
    data_done c.args.size c.args.bits.now c.loop-layer.layer c.args.grid.now c.loop-layer.grid
    (let e : c.loop-layer.layer ≡ c.args.size.layers = omega arith in e) c.loop-layer.invariant
