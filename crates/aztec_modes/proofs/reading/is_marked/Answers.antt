use Rattle.aztec_modes.proofs.SplitMessages.{mark_here, mark_value, mark_long}
use Rattle.std.proofs.Common.{arith, sym, ◌∙◌, ◌≡◌, ◌≤◌, length, true}
use Rattle.std.specs.Prelude.{◌==◌}
use Rattle.std.proofs.lemmas.Bool.{eqb-true, eq-eqb}
use Rattle.aztec_modes.proofs.reading.is_marked.Goals as goal

pub returns-then-bits-lt10-clause-unmarked : goal.returns-then-bits-lt10-clause-unmarked
returns-then-bits-lt10-clause-unmarked c = λ is marked. absurd (omega (arith, mark_long c.args.bits.now marked, c.if-bits-lt10.true))

pub returns-clause-marked : goal.returns-clause-marked
returns-clause-marked c = λ is.
    mark_here c.args.bits.now (omega (arith, c.if-bits-lt10.false)) (sym c.number_from.ensures.number ∙ eqb-true c.number_from.result 957 is)

pub returns-clause-unmarked : goal.returns-clause-unmarked
returns-clause-unmarked c = λ is marked.
    let e : (c.number_from.result == 957) ≡ true = eq-eqb c.number_from.result 957 (c.number_from.ensures.number ∙ mark_value c.args.bits.now marked) in
    absurd (cc)
