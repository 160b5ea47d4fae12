use Rattle.std.proofs.Common.{refl, sym, ap, ◌∙◌, ◌+◌, ◌-◌, arith, drop, length, Some}
use Rattle.aztec_modes.specs.declared.mode.Mode.TheVariants.{Upper}
use Rattle.aztec_modes.proofs.ReadingSteps.{reading_begins, reading_ends, reading_stops, reading_steps, reading_lessens, ahead_there}
use Rattle.std.proofs.lemmas.List.{length-drop}
use Rattle.aztec_modes.proofs.reading.read_elements.Goals as goal

pub returns-in_default-clause-refused : goal.returns-in_default-clause-refused
returns-in_default-clause-refused c =
    reading_stops c.args.width c.args.bits.now c.loop-mode.at c.loop-mode.mode c.loop-mode.elements c.loop-mode.invariant
    (sym c.fills_from.ensures ∙ c.loop-mode-test.true) (sym c.code_at_bits.ensures ∙ c.in_default.is)

pub overflow_add-at : goal.overflow_add-at
overflow_add-at c =
    omega (
      arith,
      c.code_length.ensures,
      ahead_there c.loop-mode.mode c.in-Some.code (drop c.loop-mode.at c.args.bits.now) (sym c.code_at_bits.ensures ∙ c.in-Some.is),
      length-drop c.loop-mode.at c.args.bits.now,
      c.loop-mode.invariant.within,
    )

pub loop-mode-smaller : goal.loop-mode-smaller
loop-mode-smaller c =
    reading_lessens c.args.bits.now c.loop-mode.at (c.loop-mode.at + c.code_length.result) c.loop-mode.mode c.in-Some.code
    (sym c.code_at_bits.ensures ∙ c.in-Some.is) c.loop-mode.invariant.within (ap (λ n. c.loop-mode.at + n) c.code_length.ensures)

pub loop-mode-preserved : goal.loop-mode-preserved
loop-mode-preserved c =
    reading_steps c.args.width c.args.bits.now c.loop-mode.at (c.loop-mode.at + c.code_length.result) c.loop-mode.mode c.code_next-mode.result c.in-Some.code c.loop-mode.elements c.push_spelled.new.elements
    c.loop-mode.invariant (sym c.fills_from.ensures ∙ c.loop-mode-test.true) (sym c.code_at_bits.ensures ∙ c.in-Some.is)
    c.in_ok-push_spelled.ensures (ap (λ n. c.loop-mode.at + n) c.code_length.ensures) c.code_next-mode.ensures

pub returns-clause-read : goal.returns-clause-read
returns-clause-read c =
    reading_ends c.args.width c.args.bits.now c.loop-mode.at c.loop-mode.mode c.loop-mode.elements c.loop-mode.invariant (sym c.fills_from.ensures ∙ c.loop-mode-test.false)
