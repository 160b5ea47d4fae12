use Rattle.std.proofs.Common.{sym, ◌∙◌, arith}
use Rattle.image_locate.proofs.Cuts.{cut_all, cut_more}
use Rattle.image_locate.proofs.cutting.cut.Goals as goal

pub loop-n-preserved : goal.loop-n-preserved
loop-n-preserved c =
    rw c.set.ensures.changed (cut_more c.args.picture.now c.args.stand c.side-side.result c.loop-n.n c.loop-n.grid c.in-Some.dark c.loop-n.invariant c.loop-n-test.true (sym c.module_seen.ensures ∙ c.in-Some.is))

pub returns-clause-cut : goal.returns-clause-cut
returns-clause-cut c =
    cut_all c.args.picture.now c.args.stand c.args.size c.loop-n.n c.loop-n.grid c.requires.kind (rw (← c.side-side.ensures) c.loop-n.invariant) (rw (← c.side-side.ensures) (omega (arith, c.loop-n-test.false)))
