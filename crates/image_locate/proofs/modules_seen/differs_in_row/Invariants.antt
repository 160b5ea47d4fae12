use Rattle.std.proofs.Common.{◌<◌, ℕ}
use Rattle.image_locate.specs.Stands.{AgreesAt}
use Rattle.image_locate.proofs.modules_seen.differs_in_row.Given as goal

-- the columns so far agree
abbrev pub invariant-loop-a : goal.invariant-loop-a
invariant-loop-a l = (a : ℕ) → a < l.a → AgreesAt l.picture l.stand a l.b
