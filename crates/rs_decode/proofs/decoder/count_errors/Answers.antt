use Rattle.std.proofs.Common.{◌≡◌, ◌+◌, arith, drop}
use Rattle.galois.specs.CheckWord.{known_distance}
use Rattle.rs_decode.proofs.Distances.{distance_step, distance_end}
use Rattle.rs_decode.proofs.decoder.count_errors.Goals as goal

pub loop-i-preserved : goal.loop-i-preserved
loop-i-preserved g c =
    let step : c.differs-count.result + known_distance g.F.PartialEq.eq (drop (c.loop-i.i + 1) c.args.lost.now) (drop (c.loop-i.i + 1) c.args.word.now) (drop (c.loop-i.i + 1) c.args.other.now) ≡
    known_distance g.F.PartialEq.eq (drop c.loop-i.i c.args.lost.now) (drop c.loop-i.i c.args.word.now) (drop c.loop-i.i c.args.other.now) =
    rw (c.differs-count.ensures.value, c.is_lost.ensures)
    (distance_step g.F.PartialEq.eq c.args.lost.now c.args.word.now c.args.other.now c.loop-i.i c.index-word-i.result c.index-other-i.result (omega arith) c.requires c.index-word-i.is c.index-other-i.is) in
    record {
      counted = omega (arith, step, c.loop-i.invariant.counted);
      few = omega (arith, c.loop-i.invariant.few, c.differs-count.ensures.most);
    }

pub returns : goal.returns
returns g c =
    omega (arith, distance_end g.F.PartialEq.eq (drop c.loop-i.i c.args.lost.now) c.args.word.now (drop c.loop-i.i c.args.other.now) c.loop-i.i c.loop-i-test.false, c.loop-i.invariant.counted)
