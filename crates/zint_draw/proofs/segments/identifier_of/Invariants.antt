use Rattle.std.proofs.Common.{◌≡◌, take}
use Rattle.zint_draw.proofs.segments.identifier_of.Given as goal

-- the bytes so far
abbrev pub invariant-loop-byte : goal.invariant-loop-byte
invariant-loop-byte l = l.id ≡ take l.byte-index l.byte-items
