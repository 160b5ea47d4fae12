use Rattle.std.proofs.Common.{map}
use Rattle.zint_settings.specs.Settings.{segment_in}
use Rattle.zint_draw.proofs.SegmentSteps.{SegmentsDone}
use Rattle.zint_draw.proofs.segments.segments_elements.Given as goal

-- the segments so far are done
abbrev pub invariant-loop-segment : goal.invariant-loop-segment
invariant-loop-segment l = SegmentsDone l.options (map segment_in l.segments) l.segment-index l.number l.elements
