use Rattle.std.proofs.Common.{ℕ, subst, arith}
use Rattle.image_locate.specs.Finding.{AtPixel, HasRoom}
use Rattle.image_locate.proofs.FinderRings.{light_centre, room_of}
use Rattle.image_locate.proofs.Search.{none_of_all}
use Rattle.image_locate.proofs.locating.first_at.Goals as goal

pub returns-then-not-dark : goal.returns-then-not-dark
returns-then-not-dark c = λ stand is ranged shows.
    light_centre c.args.picture.now c.args.x c.args.y c.dark.result c.dark.ensures.module c.if-not-dark.true stand is.0 is.1 ranged shows

pub returns : goal.returns
returns c =
    let p = c.args.picture.now in
    none_of_all p (AtPixel c.args.x c.args.y) (λ s. s.u) c.loop-u.u c.loop-u.invariant
    (λ stand is ranged shows.
    (let room = subst (λ (x : ℕ). HasRoom p x c.args.y stand.u) is.1 (subst (λ (y : ℕ). HasRoom p stand.x y stand.u) is.0 (room_of p stand ranged shows)) in
    omega (arith, c.most_pixels-u-end.ensures.most stand.u room ranged.few, c.loop-u-test.false)))
