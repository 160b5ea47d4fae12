use Rattle.std.proofs.Common.{◌≡◌, ℕ, ⊎_elim, subst, arith}
use Rattle.std.proofs.lemmas.Bool.{cases_lt}
use Rattle.image_locate.specs.Stands.{AgreesAt}
use Rattle.image_locate.proofs.modules_seen.differs_in_row.Goals as goal

pub loop-a-preserved : goal.loop-a-preserved
loop-a-preserved c = λ a below. ⊎_elim
    (λ less. c.loop-a.invariant a less)
    (λ more. subst
    (λ (k : ℕ). AgreesAt c.args.picture.now c.args.stand k c.args.b)
    (let e : c.loop-a.a ≡ a = omega (arith, more, below) in e) (c.differs.ensures.agrees c.if-differs.false))
    (cases_lt a c.loop-a.a)
