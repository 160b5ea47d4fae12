use Rattle.std.proofs.Common.{◌≡◌, ◌+◌, map, take}
use Rattle.zint_settings.specs.Settings.{segment_in}
use Rattle.zint_draw.specs.Segments.{bytes_in_segments}
use Rattle.zint_draw.proofs.segments.are_within.Given as goal

-- the room that is left, and the bytes so far
abbrev pub invariant-loop-segment : goal.invariant-loop-segment
invariant-loop-segment l = l.room + bytes_in_segments (take l.segment-index (map segment_in l.segments)) ≡ l.most
