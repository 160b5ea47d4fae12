use Rattle.std.proofs.Common.{map, arith}
use Rattle.std.proofs.lemmas.Grind.{common_steps}
use Rattle.zint_settings.specs.Settings.{segment_in}
use Rattle.zint_draw.proofs.SegmentSteps.{all_done, more_done, none_left, refused_next, segment_here}
use Rattle.zint_draw.proofs.segments.segments_elements.Goals as goal

pub returns-in_err-own : goal.returns-in_err-own
returns-in_err-own c =
    let refused = refused_next c.args.options (map segment_in c.args.segments.now) c.loop-segment.segment-index c.loop-segment.number
    c.loop-segment.elements (segment_in c.segment-item.result) c.in_err-own.field-0.0 c.loop-segment.invariant
    (segment_here c.args.segments.now c.loop-segment.segment-index c.segment-item.result c.loop-segment-test.true c.segment-item.is)
    c.in_err-own.ensures in
    grind (arith, common_steps, refused)

pub loop-segment-preserved : goal.loop-segment-preserved
loop-segment-preserved c =
    more_done c.args.options (map segment_in c.args.segments.now) c.loop-segment.segment-index c.loop-segment.number c.loop-segment.elements
    c.in_ok-own.own c.push_elements.new.elements (segment_in c.segment-item.result) c.loop-segment.invariant
    (segment_here c.args.segments.now c.loop-segment.segment-index c.segment-item.result c.loop-segment-test.true c.segment-item.is)
    c.in_ok-own.ensures c.in_ok-push_elements.ensures

pub returns : goal.returns
returns c =
    all_done c.args.options (map segment_in c.args.segments.now) c.loop-segment.segment-index c.loop-segment.number c.loop-segment.elements
    c.loop-segment.invariant (none_left c.args.segments.now c.loop-segment.segment-index c.loop-segment-test.false)
