use Rattle.aztec_layout.specs.Painting.{Paints}
use Rattle.aztec_layout.specs.SymbolGrid.{IsLayerDot}
use Rattle.aztec_layout.proofs.PaintingLemmas.{Upto}
use Rattle.aztec_layout.proofs.data_painting.draw_data.Given as goal

abbrev pub invariant-loop-layer : goal.invariant-loop-layer
invariant-loop-layer l = Paints l.initial.grid l.grid (Upto (IsLayerDot l.size l.bits) l.layer)
