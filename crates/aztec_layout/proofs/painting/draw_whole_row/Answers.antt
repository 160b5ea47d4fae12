use Rattle.std.proofs.Common.{◌≡◌, Bool, true, subst}
use Rattle.aztec_layout.specs.Painting.{Paints}
use Rattle.aztec_layout.proofs.Dots.{FixedDot}
use Rattle.aztec_layout.proofs.PaintingLemmas.{paints_next}
use Rattle.aztec_layout.proofs.painting.draw_whole_row.Goals as goal

pub loop-x-preserved : goal.loop-x-preserved
loop-x-preserved c =
    paints_next c.args.grid.now c.loop-x.grid c.dot.new.grid (FixedDot c.args.full c.args.centre c.args.y) c.loop-x.x c.loop-x.invariant
    (subst (λ (dark : Bool). Paints c.loop-x.grid c.dot.new.grid (λ a b. (dark ≡ true) × (a ≡ c.loop-x.x) × (b ≡ c.args.y)))
    c.is_dark_fixed.ensures c.dot.ensures)
