use Rattle.std.proofs.Common.{◌∙◌, refl, sym, arith}
use Rattle.std.proofs.lemmas.List.{length-set}
use Rattle.galois.proofs.Sums.{nought_mul}
use Rattle.rs_encode.proofs.DivisionLemmas.{moved_step, moved_last, nothing_added}
use Rattle.rs_encode.proofs.division.move_zeros.Goals as goal

pub loop-i-preserved : goal.loop-i-preserved
loop-i-preserved g c = record {
  room = length-set _ _ _ ∙ c.loop-i.invariant.room;
  done =
      moved_step g.F.Field.plus g.F.Field.times g.F.Field.power g.F.Field.nought c.loop-i.registers c.args.exponents.now c.loop-i.i c.index-registers-i.result c.index-registers-i.result
      (omega (arith, c.loop-i-test.true, c.loop-i.invariant.room)) (omega (arith, c.requires.alike, c.loop-i.invariant.room)) c.index-registers-i.is
      (nothing_added g.met.F.Field.laws c.index-registers-i.result g.F.Field.nought _ refl)
      ∙ c.loop-i.invariant.done;
}

pub returns : goal.returns
returns g c =
    moved_last g.F.Field.plus g.F.Field.times g.F.Field.power g.F.Field.nought c.loop-i.registers c.args.exponents.now c.loop-i.i _ c.zero.result _
    (omega (arith, c.requires.some, c.loop-i.invariant.room)) (omega (arith, c.requires.alike, c.loop-i.invariant.room)) (omega arith)
    (c.zero.ensures ∙ sym (nought_mul g.met.F.Field.laws _)) c.loop-i.invariant.done
