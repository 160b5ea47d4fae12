use Rattle.std.proofs.Common.{ℕ, List, sym, subst, arith}
use Rattle.code128_best.specs.Spelling.{plain, AreDrawnValues}
use Rattle.code128_best.proofs.WayLaws.{start_small, best_small, whole_few, whole_drawn}
use Rattle.code128_best.proofs.drawing.drawn_by.Goals as goal

pub values_from-requires-clause-begins : goal.values_from-requires-clause-begins
values_from-requires-clause-begins c = start_small c.best_start-start.result.value (plain c.best_start-start.result.set) c.best_start-start.ensures.is

pub values_from-requires-clause-known : goal.values_from-requires-clause-known
values_from-requires-clause-known c =
    omega (
      arith,
      best_small c.args.costs.now c.args.body.now c.requires.settled c.best_start-start.result.value (plain c.best_start-start.result.set) c.best_start-start.ensures c.requires.elements
          c.requires.spelled,
    )

pub of-requires-clause-some : goal.of-requires-clause-some
of-requires-clause-some c =
    let small = best_small c.args.costs.now c.args.body.now c.requires.settled c.best_start-start.result.value (plain c.best_start-start.result.set) c.best_start-start.ensures c.requires.elements
    c.requires.spelled in
    (whole_few c.args.costs.now c.args.body.now c.best_start-start.result.value (plain c.best_start-start.result.set) c.in_ok-values.values.items c.in_ok-values.ensures (omega arith)).0

pub of-requires-clause-few : goal.of-requires-clause-few
of-requires-clause-few c =
    let small = best_small c.args.costs.now c.args.body.now c.requires.settled c.best_start-start.result.value (plain c.best_start-start.result.set) c.best_start-start.ensures c.requires.elements
    c.requires.spelled in
    (whole_few c.args.costs.now c.args.body.now c.best_start-start.result.value (plain c.best_start-start.result.set) c.in_ok-values.values.items c.in_ok-values.ensures (omega arith)).1

pub returns : goal.returns
returns c =
    subst (λ (xs : List ℕ). AreDrawnValues c.args.body.now xs) (sym c.of.ensures)
    (whole_drawn c.args.costs.now c.args.body.now c.requires.settled c.best_start-start.result.value (plain c.best_start-start.result.set) c.in_ok-values.values.items c.best_start-start.ensures
    c.in_ok-values.ensures)
