use Rattle.std.proofs.Common.{◌≡◌, ◌≤◌, ◌+◌, ◌-◌, ◌++◌, ◌∙◌, ℕ, List, length, take, drop, ap, subst, rules, arith}
use Rattle.bar_base.specs.declared.element.Element.{Element}
use Rattle.aztec_modes.specs.Entry.{code_bits}
use Rattle.aztec_best.proofs.Drawing.{step_nearer, nearer_after}
use Rattle.aztec_best.proofs.DrawnBits.{bits_start, bits_step, bits_end}
use Rattle.aztec_best.proofs.draw.drawn_bits.Goals as goal

pub stand_after-after-requires : goal.stand_after-after-requires
stand_after-after-requires c =
    let (within, nearer) = step_nearer c.args.costs.now c.args.elements.now c.loop-at.at.mode c.loop-at.at.place c.next_code-code.result c.requires
    c.loop-at.invariant.valid c.loop-at.invariant.within c.next_code-code.ensures in
    omega (arith, c.requires.fits)

pub slice_bounds-spelled-end : goal.slice_bounds-spelled-end
slice_bounds-spelled-end c =
    let (within, nearer) = step_nearer c.args.costs.now c.args.elements.now c.loop-at.at.mode c.loop-at.at.place c.next_code-code.result c.requires
    c.loop-at.invariant.valid c.loop-at.invariant.within c.next_code-code.ensures in
    let from : c.loop-at.at.place ≤ c.stand_after-after.result.place = omega (arith, c.stand_after-after.ensures.place) in
    let to : c.stand_after-after.result.place ≤ length c.as_slice-items.result.now =
    omega (arith, within, c.stand_after-after.ensures.place, ap length c.as_slice-items.ensures.same) in
    search rules

pub loop-at-smaller : goal.loop-at-smaller
loop-at-smaller c =
    let (within, nearer) = step_nearer c.args.costs.now c.args.elements.now c.loop-at.at.mode c.loop-at.at.place c.next_code-code.result c.requires
    c.loop-at.invariant.valid c.loop-at.invariant.within c.next_code-code.ensures in
    nearer_after _ _ _ _ _ _ c.stand_after-after.ensures.place c.stand_after-after.ensures.mode nearer

pub loop-at-preserved : goal.loop-at-preserved
loop-at-preserved c =
    let inside = ap length c.as_slice-items.ensures.same in
    bits_step c.args.costs.now c.args.append c.args.elements.now c.loop-at.bits c.push_code.new.bits c.loop-at.at.mode c.stand_after-after.result.mode
    c.loop-at.at.place c.stand_after-after.result.place c.next_code-code.result c.requires c.loop-at.invariant (omega (arith, c.loop-at-test.true, inside)) c.next_code-code.ensures
    (c.in_ok-push_code.ensures.pushed
    ∙ ap (λ (es : List Element). c.loop-at.bits ++ code_bits c.loop-at.at.mode c.next_code-code.result (take (c.stand_after-after.result.place - c.loop-at.at.place) (drop c.loop-at.at.place es)))
    c.as_slice-items.ensures.same)
    c.stand_after-after.ensures.mode c.stand_after-after.ensures.place

pub returns-clause-drawn : goal.returns-clause-drawn
returns-clause-drawn c =
    (bits_end c.args.append c.args.elements.now c.loop-at.bits c.loop-at.at.mode c.loop-at.at.place c.loop-at.invariant
    (omega (arith, c.loop-at-test.false, ap length c.as_slice-items.ensures.same))).drawn

pub returns-clause-bounded : goal.returns-clause-bounded
returns-clause-bounded c =
    (bits_end c.args.append c.args.elements.now c.loop-at.bits c.loop-at.at.mode c.loop-at.at.place c.loop-at.invariant
    (omega (arith, c.loop-at-test.false, ap length c.as_slice-items.ensures.same))).few
