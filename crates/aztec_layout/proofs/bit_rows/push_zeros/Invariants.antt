use Rattle.std.proofs.Common.{◌≡◌, ◌++◌, false}
use Rattle.std.specs.Prelude.{replicate}
use Rattle.aztec_layout.proofs.bit_rows.push_zeros.Given as goal

abbrev pub invariant-loop-place : goal.invariant-loop-place
invariant-loop-place l = l.row ≡ l.initial.row ++ replicate l._place false
