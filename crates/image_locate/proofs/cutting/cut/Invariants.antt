use Rattle.image_locate.proofs.Cuts.{CutSoFar}
use Rattle.image_locate.proofs.cutting.cut.Given as goal

-- the modules so far stand in the grid
abbrev pub invariant-loop-n : goal.invariant-loop-n
invariant-loop-n l = CutSoFar l.picture l.stand l.side l.n l.grid
