use Rattle.std.proofs.Common.{◌∙◌}
use Rattle.aztec_modes.proofs.Steps.{element_more}
use Rattle.aztec_modes.proofs.spelling.push_run.Goals as goal

pub loop-element-preserved : goal.loop-element-preserved
loop-element-preserved c =
    element_more _ _ _ c.args.elements.now c.loop-element.element-index _ _ c.loop-element-test.true c.loop-element.invariant (c.from.ensures ∙ c.byte_in.ensures)
    c.in_ok-push_bits.ensures.pushed
