use Rattle.std.proofs.Common.{◌≡◌, ◌*◌, ◌≤◌, take, sum}
use Rattle.bar_base.proofs.painted.modules_high.Given as goal

-- the heights of the rows so far
abbrev pub invariant-loop-y : goal.invariant-loop-y
invariant-loop-y l = (l.high ≡ sum (take l.y l.grid.heights)) × (l.high ≤ 200 * l.y)
