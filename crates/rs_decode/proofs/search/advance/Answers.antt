use Rattle.std.proofs.Common.{◌∙◌, sym, arith}
use Rattle.rs_decode.proofs.Terms.{next_step, next_all}
use Rattle.rs_decode.proofs.search.advance.Goals as goal

pub loop-i-preserved : goal.loop-i-preserved
loop-i-preserved g c =
    let same : _ = c.loop-i.auto.terms in
    next_step g.met.F.Field.laws c.loop-i.terms c.loop-i.i c.index-terms-i.result c.times_power.result (omega arith) c.index-terms-i.is (rw same c.times_power.ensures) ∙ c.loop-i.invariant

pub returns : goal.returns
returns g c = sym (next_all g.met.F.Field.laws c.loop-i.terms c.loop-i.i (omega arith)) ∙ c.loop-i.invariant
