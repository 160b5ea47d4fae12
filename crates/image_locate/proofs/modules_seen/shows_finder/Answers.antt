use Rattle.std.proofs.Common.{◌≡◌, ℕ, ⊎_elim, subst, arith}
use Rattle.std.proofs.lemmas.Bool.{cases_lt}
use Rattle.image_locate.specs.Stands.{AgreesAt}
use Rattle.image_locate.proofs.FinderRings.{is_core-within}
use Rattle.image_locate.proofs.modules_seen.shows_finder.Goals as goal

pub loop-b-preserved : goal.loop-b-preserved
loop-b-preserved c = λ a b inside below. ⊎_elim
    (λ less. c.loop-b.invariant a b inside less)
    (λ more. subst
    (λ (k : ℕ). AgreesAt c.args.picture.now c.args.stand a k)
    (let e : c.loop-b.b ≡ b = omega (arith, more, below) in e)
    (c.differs_in_row.ensures.agrees c.if-differs_in_row.false a inside))
    (cases_lt b c.loop-b.b)

pub returns-clause-shows : goal.returns-clause-shows
returns-clause-shows c = λ done a b core.
    let within = is_core-within c.args.stand.full a b core in
    c.loop-b.invariant a b within.0 (omega (arith, within.1, c.rim.ensures, c.loop-b-test.false)) core
