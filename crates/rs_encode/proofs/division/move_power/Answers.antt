use Rattle.std.proofs.Common.{◌∙◌, ◌+◌, ap, arith}
use Rattle.std.proofs.lemmas.List.{length-set}
use Rattle.galois.proofs.Sums.{power_add}
use Rattle.rs_encode.proofs.DivisionLemmas.{moved_step, moved_last}
use Rattle.rs_encode.proofs.division.move_power.Goals as goal

pub loop-i-preserved : goal.loop-i-preserved
loop-i-preserved g c = record {
  room = length-set _ _ _ ∙ c.loop-i.invariant.room;
  done =
      moved_step g.F.Field.plus g.F.Field.times g.F.Field.power (g.F.Field.power c.args.log) c.loop-i.registers c.args.exponents.now c.loop-i.i c.index-registers-i.result c.add.result
      (omega (arith, c.loop-i-test.true, c.loop-i.invariant.room)) (omega (arith, c.requires.alike, c.loop-i.invariant.room)) c.index-registers-i.is
      (c.add.ensures ∙ ap (g.F.Field.plus c.index-registers-i.result) (c.power.ensures ∙ ap (λ k. g.F.Field.power (c.args.log + k)) c.from.ensures ∙ power_add g.met.F.Field.laws c.args.log _))
      ∙ c.loop-i.invariant.done;
}

pub returns : goal.returns
returns g c =
    moved_last g.F.Field.plus g.F.Field.times g.F.Field.power (g.F.Field.power c.args.log) c.loop-i.registers c.args.exponents.now c.loop-i.i _ c.power-2.result _
    (omega (arith, c.requires.some, c.loop-i.invariant.room)) (omega (arith, c.requires.alike, c.loop-i.invariant.room)) (omega arith)
    (c.power-2.ensures ∙ ap (λ k. g.F.Field.power (c.args.log + k)) c.from-2.ensures ∙ power_add g.met.F.Field.laws c.args.log _) c.loop-i.invariant.done
