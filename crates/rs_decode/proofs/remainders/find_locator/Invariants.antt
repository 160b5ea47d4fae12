use Rattle.std.proofs.Common.{◌≡◌, ◌≤◌, ◌<◌, ◌*◌, ◌+◌, get_or}
use Rattle.rs_decode.specs.Euclid.{HoldsEuclid}
use Rattle.rs_decode.proofs.remainders.find_locator.Given as goal

abbrev pub invariant-loop-high : goal.invariant-loop-high
invariant-loop-high g l =
    record {
      holds : HoldsEuclid g.F.Field.nought g.F.Field.unit g.F.Field.plus g.F.Field.times (λ t. get_or l.syndromes t g.F.Field.nought) (2 * l.half) l.high l.high_factor l.low l.low_factor l.sizes.high l.sizes.low;
      few : l.sizes.few ≡ 2 * l.half;
      half : l.sizes.half ≡ l.half;
      most_high : l.sizes.high ≤ l.sizes.few + 1;
      most_low : l.sizes.low ≤ l.sizes.few + 1;
      least_high : l.half ≤ l.sizes.high;
      least_low : l.half ≤ l.sizes.low;
      both : 2 * l.half < l.sizes.high + l.sizes.low;
    }

abbrev pub decreases-loop-high : goal.decreases-loop-high
decreases-loop-high g l = l.sizes.high + l.sizes.low
