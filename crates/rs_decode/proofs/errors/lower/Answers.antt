use Rattle.std.proofs.Common.{◌∙◌, sym, ap, arith}
use Rattle.rs_decode.proofs.Values.{lowered_step, lowered_all}
use Rattle.rs_decode.proofs.errors.lower.Goals as goal

pub loop-i-preserved : goal.loop-i-preserved
loop-i-preserved g c =
    lowered_step g.met.F.Field.laws (g.F.Field.power c.args.place) c.loop-i.sums c.loop-i.i c.loop-i.before c.index-sums-i.result c.add.result (omega arith) c.index-sums-i.is
    (c.add.ensures ∙ ap (g.F.Field.plus c.index-sums-i.result) c.times_power_at.ensures) ∙ c.loop-i.invariant

pub returns : goal.returns
returns g c = sym (lowered_all g.met.F.Field.laws (g.F.Field.power c.args.place) c.loop-i.sums c.loop-i.i c.loop-i.before (omega arith)) ∙ c.loop-i.invariant
