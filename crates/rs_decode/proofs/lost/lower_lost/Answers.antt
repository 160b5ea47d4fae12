use Rattle.std.proofs.Common.{◌≤◌, ◌∙◌, arith, refl, false, length, get_or}
use Rattle.galois.specs.CheckWord.{lost_count}
use Rattle.rs_decode.proofs.Lowering.{lost_more, lowered_more, lowered_none, some_left}
use Rattle.rs_decode.proofs.lost.lower_lost.Goals as goal

pub loop-at-init : goal.loop-at-init
loop-at-init g c = record {
  counted = refl;
  long = refl;
  lowered = lowered_none g.met.F.Field.laws c.args.long c.args.syndromes.now;
}

pub lower_next-taken-requires : goal.lower_next-taken-requires
lower_next-taken-requires g c =
    some_left c.args.lost.now c.loop-at.at c.loop-at.taken (length c.loop-at.syndromes) c.loop-at-test.true c.loop-at.invariant.counted
    (omega (arith, c.loop-at.invariant.long, c.requires.few))

pub loop-at-preserved : goal.loop-at-preserved
loop-at-preserved g c =
    let few : lost_count c.args.lost.now ≤ length c.loop-at.syndromes = omega (arith, c.loop-at.invariant.long, c.requires.few) in
    record {
      counted = omega (arith, lost_more c.args.lost.now c.loop-at.at (get_or c.args.lost.now c.loop-at.at false) c.loop-at-test.true refl, c.lower_next-taken.ensures.counted, c.loop-at.invariant.counted);
      long = c.lower_next-taken.auto.syndromes ∙ c.loop-at.invariant.long;
      lowered =
          lowered_more g.met.F.Field.laws c.args.long c.args.lost.now c.loop-at.at c.loop-at-test.true c.requires.alike c.args.syndromes.now c.loop-at.syndromes c.lower_next-taken.new.syndromes
          c.loop-at.taken c.lower_next-taken.result (get_or c.args.lost.now c.loop-at.at false) c.requires.fits refl
          (some_left c.args.lost.now c.loop-at.at c.loop-at.taken (length c.loop-at.syndromes) c.loop-at-test.true c.loop-at.invariant.counted few)
          c.lower_next-taken.ensures.counted c.lower_next-taken.ensures.lost c.lower_next-taken.ensures.known c.loop-at.invariant.lowered;
    }
