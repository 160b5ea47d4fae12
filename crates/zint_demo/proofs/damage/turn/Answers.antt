use Rattle.std.proofs.Common.{◌≡◌, subst, sym}
use Rattle.bar_base.specs.Picture.{Picture}
use Rattle.zint_demo.specs.Damage.{IsTurned}
use Rattle.zint_demo.proofs.Turning.{turned_one}
use Rattle.zint_demo.proofs.damage.turn.Goals as goal

pub returns : goal.returns
returns c =
    subst (λ (h : Picture). IsTurned c.args.grid.now h (λ a b. (a ≡ c.args.x) × (b ≡ c.args.y))) (sym c.set.ensures.changed)
    (turned_one c.args.grid.now c.args.x c.args.y c.dark-dark.result c.requires.column c.dark-dark.ensures.module)
