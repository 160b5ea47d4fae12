use Rattle.std.proofs.Common.{◌≡◌, ◌*◌, take}
use Rattle.std.specs.List.{repeat}
use Rattle.bmp_io.proofs.copies.copy_rows.Given as goal

-- so many copies of the first row stand at the front
abbrev pub invariant-loop-i : goal.invariant-loop-i
invariant-loop-i l = take (l.i * l.stride) l.rows ≡ repeat l.i (take l.stride l.initial.rows)
