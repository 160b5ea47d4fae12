use Rattle.std.proofs.Common.{◌+◌, ◌-◌, max, vec_len}
use Rattle.bar_base.proofs.Taken.{TakenSoFar}
use Rattle.bar_base.proofs.reading.read_all.Given as goal

abbrev pub invariant-loop-bytes : goal.invariant-loop-bytes
invariant-loop-bytes g l =
    TakenSoFar l.limit l.bmp_limit (g.S.Source.left l.initial.source) (g.S.Source.left l.source) l.bytes.items (g.S.Source.faults l.initial.source) (g.S.Source.faults l.source) (g.S.Source.rest l.initial.source) (g.S.Source.rest l.source)

-- each read takes a byte at least, so there is at most one more than the greater limit
abbrev pub decreases-loop-bytes : goal.decreases-loop-bytes
decreases-loop-bytes g l = max l.limit l.bmp_limit + 1 - vec_len l.bytes
