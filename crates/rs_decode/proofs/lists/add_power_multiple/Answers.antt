use Rattle.std.proofs.Common.{◌∙◌, sym, ap, arith}
use Rattle.rs_decode.proofs.ListSums.{added_step, added_all}
use Rattle.rs_decode.proofs.lists.add_power_multiple.Goals as goal

pub loop-i-preserved : goal.loop-i-preserved
loop-i-preserved g c =
    added_step g.F.Field.plus g.F.Field.times (g.F.Field.power c.args.exponent) c.loop-i.target c.args.source.now c.loop-i.i c.index-target-i.result c.index-source-i.result c.add.result
    (omega arith) (omega arith) c.index-target-i.is c.index-source-i.is
    (c.add.ensures ∙ ap (g.F.Field.plus c.index-target-i.result) (c.times_power.ensures ∙ g.met.F.Field.laws.mul_comm c.index-source-i.result (g.F.Field.power c.args.exponent))) ∙ c.loop-i.invariant

pub returns : goal.returns
returns g c = sym (added_all g.F.Field.plus g.F.Field.times (g.F.Field.power c.args.exponent) c.loop-i.target c.args.source.now c.loop-i.i (omega arith)) ∙ c.loop-i.invariant
