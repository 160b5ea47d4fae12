use Rattle.std.proofs.Common.{◌<◌, ◌≤◌, ◌*◌, ℕ}
use Rattle.aztec_layout.specs.Core.{rim_of}
use Rattle.image_locate.specs.Stands.{AgreesAt}
use Rattle.image_locate.proofs.modules_seen.shows_finder.Given as goal

-- the rows so far agree
abbrev pub invariant-loop-b : goal.invariant-loop-b
invariant-loop-b l = (a b : ℕ) → a ≤ 2 * rim_of l.stand.full → b < l.b → AgreesAt l.picture l.stand a b
