use Rattle.std.proofs.Common.{◌≡◌, ◌≤◌, ◌+◌, length, rules, arith}
use Rattle.aztec_modes.specs.declared.mode.Mode.TheVariants.{Upper}
use Rattle.aztec_modes.specs.declared.code.Code.TheVariants.{Latch}
use Rattle.aztec_modes.proofs.PathLaws.{path_fits, count_there, path_goes_on, path_spelled, path_only, spells_once}
use Rattle.aztec_modes.proofs.spelling.spell.Goals as goal

pub slice_bounds-push_code-end : goal.slice_bounds-push_code-end
slice_bounds-push_code-end c =
    let fits = path_fits c.as_slice-codes.result.now c.as_slice-items.result.now c.loop-code.bits c.loop-code.mode c.loop-code.at c.loop-code.code-index
    (Latch Upper) c.loop-code-test.true c.loop-code.invariant in
    let h : c.loop-code.at + c.code_count.result ≤ length c.as_slice-items.result.now =
    omega (arith, c.code_count.ensures, count_there c.as_slice-items.result.now c.loop-code.at c.loop-code.invariant.within fits) in
    search rules

pub push_code-requires : goal.push_code-requires
push_code-requires c =
    (path_fits c.as_slice-codes.result.now c.as_slice-items.result.now c.loop-code.bits c.loop-code.mode c.loop-code.at c.loop-code.code-index
    (Latch Upper) c.loop-code-test.true c.loop-code.invariant).entry.has

pub loop-code-preserved : goal.loop-code-preserved
loop-code-preserved c =
    path_goes_on c.as_slice-codes.result.now c.as_slice-items.result.now c.loop-code.bits c.loop-code.mode c.loop-code.at c.loop-code.code-index
    (Latch Upper) c.loop-code-test.true c.loop-code.invariant c.push_code.new.bits c.code_next-mode.result c.code_count.result
    c.in_ok-push_code.ensures.pushed c.code_next-mode.ensures c.code_count.ensures

pub returns-clause-spelled : goal.returns-clause-spelled
returns-clause-spelled c =
    path_spelled c.as_slice-codes.result.now c.args.path.now c.as_slice-items.result.now c.args.elements.now c.loop-code.bits c.loop-code.mode c.loop-code.at
    c.loop-code.code-index c.as_slice-codes.ensures.same c.as_slice-items.ensures.same (omega arith) c.loop-code.invariant

pub returns-clause-only : goal.returns-clause-only
returns-clause-only c =
    λ others spells. spells_once c.args.path.now spells
    (path_spelled c.as_slice-codes.result.now c.args.path.now c.as_slice-items.result.now c.args.elements.now c.loop-code.bits c.loop-code.mode c.loop-code.at
    c.loop-code.code-index c.as_slice-codes.ensures.same c.as_slice-items.ensures.same (omega arith) c.loop-code.invariant)

pub returns-clause-sole : goal.returns-clause-sole
returns-clause-sole c =
    λ codes spelled spells. path_only c.args.path.now codes
    (path_spelled c.as_slice-codes.result.now c.args.path.now c.as_slice-items.result.now c.args.elements.now c.loop-code.bits c.loop-code.mode c.loop-code.at
    c.loop-code.code-index c.as_slice-codes.ensures.same c.as_slice-items.ensures.same (omega arith) c.loop-code.invariant)
    spells
