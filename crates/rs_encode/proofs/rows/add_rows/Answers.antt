use Rattle.std.proofs.Common.{◌∙◌, ◌-◌, ◌<◌, ℕ, length, ap, arith, get_or}
use Rattle.std.proofs.lemmas.List.{length-set}
use Rattle.rs_encode.proofs.RowLemmas.{three_products}
use Rattle.rs_encode.proofs.DivisionLemmas.{moved_step, moved_last}
use Rattle.rs_encode.proofs.rows.add_rows.Goals as goal

pub loop-i-preserved : goal.loop-i-preserved
loop-i-preserved g c = record {
  room = length-set _ _ _ ∙ c.loop-i.invariant.room;
  done = λ x y z exponents long in_a in_b in_c.
      let e : g.row.F.Denot = g.F.Field.power (get_or exponents c.loop-i.i 0) in
      let within : c.loop-i.i < length exponents = omega (arith, c.loop-i-test.true, c.loop-i.invariant.room, long) in
      moved_step g.F.Field.plus g.F.Field.times g.F.Field.power (g.F.Field.plus x (g.F.Field.plus y z)) c.loop-i.registers exponents c.loop-i.i c.index-registers-i.result c.add.result
      (omega (arith, c.loop-i-test.true, c.loop-i.invariant.room)) (omega (arith, c.loop-i.invariant.room, long)) c.index-registers-i.is
      (c.add.ensures ∙ ap (g.F.Field.plus c.index-registers-i.result)
      (c.summed.ensures (g.F.Field.times x e) (g.F.Field.times y e) (g.F.Field.times z e) (in_a c.loop-i.i within) (in_b c.loop-i.i within) (in_c c.loop-i.i within)
      ∙ three_products g.met.F.Field.laws x y z e))
      ∙ c.loop-i.invariant.done x y z exponents long in_a in_b in_c;
}

pub returns : goal.returns
returns g c = λ x y z exponents long in_a in_b in_c.
    let last : ℕ = length c.args.registers.now - 1 in
    let e : g.row.F.Denot = g.F.Field.power (get_or exponents last 0) in
    let within : last < length exponents = omega (arith, c.requires.some, long) in
    moved_last g.F.Field.plus g.F.Field.times g.F.Field.power (g.F.Field.plus x (g.F.Field.plus y z)) c.loop-i.registers exponents c.loop-i.i last c.summed-2.result _
    (omega (arith, c.requires.some, c.loop-i.invariant.room)) (omega (arith, c.loop-i.invariant.room, long)) (omega arith)
    (c.summed-2.ensures (g.F.Field.times x e) (g.F.Field.times y e) (g.F.Field.times z e) (in_a last within) (in_b last within) (in_c last within)
    ∙ three_products g.met.F.Field.laws x y z e)
    (c.loop-i.invariant.done x y z exponents long in_a in_b in_c)
