use Rattle.std.proofs.Common.{◌*◌, None}
use Rattle.aztec_best.specs.Numbers.{controls_from}
use Rattle.aztec_best.specs.Picks.{IsFirstOfKind, HasRank}
use Rattle.aztec_best.proofs.pick.pick_controls.Given as goal

abbrev pub invariant-loop-first : goal.invariant-loop-first
invariant-loop-first l = IsFirstOfKind l.costs l.elements l.at.place l.at.mode (HasRank l.at.mode (controls_from l.at.mode * 4096) (l.first * 4096)) None
