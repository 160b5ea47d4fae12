use Rattle.std.proofs.Common.{◌-◌, length, map, arith, sym}
use Rattle.zint_settings.specs.Settings.{segment_in}
use Rattle.zint_draw.proofs.SegmentSteps.{room_left, room_passed, segment_here}
use Rattle.zint_draw.proofs.segments.are_within.Goals as goal

pub returns-then-segment-room : goal.returns-then-segment-room
returns-then-segment-room c =
    let here = segment_here c.args.segments.now c.loop-segment.segment-index c.segment-item.result c.loop-segment-test.true c.segment-item.is in
    let passed = room_passed (map segment_in c.args.segments.now) c.loop-segment.segment-index c.loop-segment.room c.args.most
    (segment_in c.segment-item.result) c.loop-segment.invariant here c.if-segment-room.true in
    sym passed

pub loop-segment-preserved : goal.loop-segment-preserved
loop-segment-preserved c =
    room_left (map segment_in c.args.segments.now) c.loop-segment.segment-index c.loop-segment.room
    (c.loop-segment.room - length c.segment-item.result.text.now) c.args.most (segment_in c.segment-item.result) c.loop-segment.invariant
    (segment_here c.args.segments.now c.loop-segment.segment-index c.segment-item.result c.loop-segment-test.true c.segment-item.is)
    (omega (arith, c.if-segment-room.false))
