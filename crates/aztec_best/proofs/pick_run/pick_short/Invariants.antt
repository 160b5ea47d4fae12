use Rattle.std.proofs.Common.{◌+◌, ◌*◌, None}
use Rattle.aztec_best.specs.Picks.{IsFirstOfKind, HasRank}
use Rattle.aztec_best.proofs.pick_run.pick_short.Given as goal

abbrev pub invariant-loop-less : goal.invariant-loop-less
invariant-loop-less l = IsFirstOfKind l.costs l.elements l.at.place l.at.mode (HasRank l.at.mode (31 * 4096 + 2048) (31 * 4096 + 2048 + l.less)) None
