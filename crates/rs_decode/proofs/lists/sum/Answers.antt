use Rattle.std.proofs.Common.{◌∙◌, sym, arith}
use Rattle.galois.proofs.Sums.{nought_add}
use Rattle.galois.specs.Coefficients.{total}
use Rattle.rs_decode.proofs.ListSums.{sum_step, sum_all}
use Rattle.rs_decode.proofs.lists.sum.Goals as goal

pub loop-element-init : goal.loop-element-init
loop-element-init g c = rw (c.zero-sum.ensures) (nought_add g.met.F.Field.laws (total g.F.Field.nought g.F.Field.plus c.args.list.now))

pub loop-element-preserved : goal.loop-element-preserved
loop-element-preserved g c =
    rw c.add-sum.ensures
    (sum_step g.met.F.Field.laws c.loop-element.sum c.element-item.result _ c.args.list.now c.loop-element.element-index (omega arith) c.element-item.is c.loop-element.invariant)

pub returns : goal.returns
returns g c = sym (sum_all g.met.F.Field.laws c.loop-element.sum c.args.list.now c.loop-element.element-index (omega arith)) ∙ c.loop-element.invariant
