use Rattle.std.proofs.Common.{◌≡◌, ◌≤◌, take}
use Rattle.galois.specs.CheckWord.{lost_count}
use Rattle.rs_decode.proofs.lost.count_lost.Given as goal

abbrev pub invariant-loop-gone : goal.invariant-loop-gone
invariant-loop-gone l =
    record {
      counted : l.count ≡ lost_count (take l.gone-index l.lost);
      few : l.count ≤ l.gone-index;
    }
