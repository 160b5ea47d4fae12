use Rattle.aztec_layout.specs.Painting.{Paints}
use Rattle.aztec_layout.specs.SymbolGrid.{IsSideDot}
use Rattle.aztec_layout.proofs.PaintingLemmas.{Upto}
use Rattle.aztec_layout.proofs.data_painting.draw_layer.Given as goal

abbrev pub invariant-loop-side : goal.invariant-loop-side
invariant-loop-side l = Paints l.initial.grid l.grid (Upto (IsSideDot l.size l.bits l.layer) l.side)
