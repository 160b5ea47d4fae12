use Rattle.std.proofs.Common.{◌≡◌, true, subst, sym}
use Rattle.bar_base.specs.Picture.{Picture}
use Rattle.aztec_layout.specs.Painting.{Paints}
use Rattle.aztec_layout.proofs.PaintingLemmas.{paints_dot}
use Rattle.aztec_layout.proofs.painting.dot.Goals as goal

pub returns : goal.returns
returns c =
    subst (λ (h : Picture). Paints c.args.grid.now h (λ a b. (c.args.dark ≡ true) × (a ≡ c.args.x) × (b ≡ c.args.y))) (sym c.set.ensures.changed)
    (paints_dot c.args.grid.now c.args.x c.args.y c.args.dark c.dark-was.result c.requires.column c.dark-was.ensures.module)
