use Rattle.std.proofs.Common.{◌≡◌, ◌+◌, ◌-◌, drop}
use Rattle.std.specs.List.{prefix_len}
use Rattle.bar_base.specs.Picture.{row_of}
use Rattle.vector_out.proofs.runs.dark_run_length.Given as goal

-- the modules so far are dark, so the run is as long as they and the run from here on
abbrev pub invariant-loop-k : goal.invariant-loop-k
invariant-loop-k l = prefix_len (λ dark. dark) (drop l.x (row_of l.grid l.y)) ≡ (l.k - l.x) + prefix_len (λ dark. dark) (drop l.k (row_of l.grid l.y))
