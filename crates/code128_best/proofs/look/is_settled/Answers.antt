use Rattle.std.proofs.Common.{arith}
use Rattle.code128_best.proofs.OwnLaws.{stable_more}
use Rattle.code128_best.proofs.TableLaws.{settled_by}
use Rattle.code128_best.proofs.look.is_settled.Goals as goal

pub loop-place-preserved : goal.loop-place-preserved
loop-place-preserved c = stable_more c.args.costs.now c.args.elements.now c.loop-place.place c.loop-place.invariant c.if-not-is_stable_place.ensures

pub returns : goal.returns
returns c =
    settled_by c.args.costs.now c.args.elements.now c.requires.table
    (λ at below. c.loop-place.invariant at (omega (arith, c.loop-place-test.false)))
