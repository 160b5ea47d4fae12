use Rattle.std.proofs.Common.{◌≡◌, drop, length, take}
use Rattle.galois.specs.CheckWord.{lost_count}
use Rattle.rs_decode.specs.Syndromes.{AreLowered}
use Rattle.rs_decode.proofs.lost.lower_lost.Given as goal

abbrev pub invariant-loop-at : goal.invariant-loop-at
invariant-loop-at g l =
    record {
      counted : l.taken ≡ lost_count (take l.at l.lost);
      long : length l.syndromes ≡ length l.initial.syndromes;
      lowered : AreLowered g.F.Field.nought g.F.Field.plus g.F.Field.times g.F.Field.power l.long (take l.at l.lost) l.initial.syndromes (drop l.taken l.syndromes);
    }
