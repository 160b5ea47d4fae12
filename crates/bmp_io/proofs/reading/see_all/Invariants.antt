use Rattle.bmp_io.proofs.Seen.{SeenSoFar}
use Rattle.bmp_io.proofs.reading.see_all.Given as goal

-- the modules so far stand in the grid
abbrev pub invariant-loop-n : goal.invariant-loop-n
invariant-loop-n l = SeenSoFar l.sampling l.header l.bytes l.n l.grid
