use Rattle.zint_read.proofs.Cuts.{CutsSoFar}
use Rattle.zint_read.proofs.frames.anywhere.cut_at.Given as goal

-- what the cuts of fewer layers came to
abbrev pub invariant-loop-layers : goal.invariant-loop-layers
invariant-loop-layers l = CutsSoFar l.pixels l.stand l.layers l.bad
