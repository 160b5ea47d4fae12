use Rattle.std.proofs.Common.{◌≡◌, ◌+◌, ◌%◌, Bool, true, subst, arith}
use Rattle.aztec_layout.specs.Painting.{Paints}
use Rattle.aztec_layout.proofs.Dots.{FixedDot, crossings_next}
use Rattle.aztec_layout.proofs.PaintingLemmas.{paints_next}
use Rattle.aztec_layout.proofs.painting.draw_crossings.Goals as goal

pub loop-x-preserved : goal.loop-x-preserved
loop-x-preserved c = (
  crossings_next c.args.full c.args.centre c.args.y c.loop-x.x c.args.grid.now c.dot.new.grid c.requires.room c.requires.off_line c.requires.outside c.loop-x.invariant.1
      (paints_next c.args.grid.now c.loop-x.grid c.dot.new.grid (FixedDot c.args.full c.args.centre c.args.y) c.loop-x.x c.loop-x.invariant.0
      (subst (λ (dark : Bool). Paints c.loop-x.grid c.dot.new.grid (λ a b. (dark ≡ true) × (a ≡ c.loop-x.x) × (b ≡ c.args.y)))
      c.is_dark_fixed.ensures c.dot.ensures)),
  (let line : c.loop-x.x % 16 ≡ c.args.centre % 16 = c.loop-x.invariant.1 in
      let e : (c.loop-x.x + 16) % 16 ≡ c.args.centre % 16 = omega (arith, line) in e),
)
