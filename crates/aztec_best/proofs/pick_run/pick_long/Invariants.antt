use Rattle.std.proofs.Common.{◌+◌, ◌*◌, None}
use Rattle.aztec_best.specs.Picks.{IsFirstOfKind, HasRank}
use Rattle.aztec_best.proofs.pick_run.pick_long.Given as goal

abbrev pub invariant-loop-more : goal.invariant-loop-more
invariant-loop-more l = IsFirstOfKind l.costs l.elements l.at.place l.at.mode (HasRank l.at.mode (31 * 4096) (31 * 4096 + l.more)) None
