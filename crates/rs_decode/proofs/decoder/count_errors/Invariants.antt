use Rattle.std.proofs.Common.{◌≡◌, ◌+◌, ◌≤◌, drop}
use Rattle.galois.specs.CheckWord.{known_distance}
use Rattle.rs_decode.proofs.decoder.count_errors.Given as goal

abbrev pub invariant-loop-i : goal.invariant-loop-i
invariant-loop-i g l =
    record {
      counted : l.count + known_distance g.F.PartialEq.eq (drop l.i l.lost) (drop l.i l.word) (drop l.i l.other) ≡ known_distance g.F.PartialEq.eq l.lost l.word l.other;
      few : l.count ≤ l.i;
    }
