use Rattle.std.proofs.Common.{[], List, false, sym, subst, arith}
use Rattle.aztec_modes.specs.declared.code.Code.{Code}
use Rattle.aztec_modes.specs.declared.mode.Mode.TheVariants.{Upper}
use Rattle.aztec_best.specs.Shortest.{IsFirst}
use Rattle.aztec_best.specs.DrawnPath.{mark_codes}
use Rattle.aztec_best.proofs.Drawing.{path_start, path_step, path_ends, step_nearer, nearer_after}
use Rattle.example_spelling.proofs.FirstCodes.{begins_cheapest}
use Rattle.example_spelling.proofs.codes_of.Goals as goal

pub loop-at-init : goal.loop-at-init
loop-at-init c = path_start [] _ _ c.len-length.ensures.elements c.new-codes.ensures.empty

pub stand_after-at-requires : goal.stand_after-at-requires
stand_after-at-requires c =
    let next = begins_cheapest c.args.bench.now c.args.elements.now c.requires.1 c.loop-at.invariant.valid c.loop-at.at.place c.loop-at.at.mode c.path_next-code.result
    (omega arith) c.path_next-code.ensures.first in
    let (within, nearer) = step_nearer c.args.bench.now c.args.elements.now c.loop-at.at.mode c.loop-at.at.place c.path_next-code.result c.requires.1
    c.loop-at.invariant.valid c.loop-at.invariant.within next in
    omega (arith, within, c.requires.1.fits)

pub loop-at-smaller : goal.loop-at-smaller
loop-at-smaller c =
    let next = begins_cheapest c.args.bench.now c.args.elements.now c.requires.1 c.loop-at.invariant.valid c.loop-at.at.place c.loop-at.at.mode c.path_next-code.result
    (omega arith) c.path_next-code.ensures.first in
    let (within, nearer) = step_nearer c.args.bench.now c.args.elements.now c.loop-at.at.mode c.loop-at.at.place c.path_next-code.result c.requires.1
    c.loop-at.invariant.valid c.loop-at.invariant.within next in
    nearer_after _ _ _ _ _ _ c.stand_after-at.ensures.place c.stand_after-at.ensures.mode nearer

pub loop-at-preserved : goal.loop-at-preserved
loop-at-preserved c =
    let next = begins_cheapest c.args.bench.now c.args.elements.now c.requires.1 c.loop-at.invariant.valid c.loop-at.at.place c.loop-at.at.mode c.path_next-code.result
    (omega arith) c.path_next-code.ensures.first in
    path_step c.args.bench.now [] c.args.elements.now _ _ _ _ _ _ c.path_next-code.result c.requires.1 c.loop-at.invariant (omega arith) next
    c.in_ok-push.ensures.pushed c.stand_after-at.ensures.mode c.stand_after-at.ensures.place

pub returns : goal.returns
unfolding mark_codes
returns c =
    let (codes, bits, are, first) = path_ends false c.args.elements.now _ _ _ c.loop-at.invariant (omega arith) in
    (bits, subst (λ (cs : List Code). IsFirst Upper c.args.elements.now cs bits) (sym are) first)
