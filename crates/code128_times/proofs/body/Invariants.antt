use Rattle.std.proofs.Common.{All}
use Rattle.code128_best.specs.Spelling.{IsCode128Element}
use Rattle.code128_times.proofs.body.Given as goal

abbrev pub invariant-loop-place : goal.invariant-loop-place
invariant-loop-place l = All IsCode128Element l.elements
