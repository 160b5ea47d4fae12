use Rattle.std.proofs.Common.{◌+◌, refl, arith}
use Rattle.aztec_best.proofs.Small.{cost_small}
use Rattle.aztec_best.proofs.RunPicks.{run_cheap, run_dear, run_within}
use Rattle.aztec_best.proofs.pick_run.if_cheapest_run.Goals as goal

pub overflow_add-run_head-2 : goal.overflow_add-run_head-2
overflow_add-run_head-2 c =
    omega (
      arith,
      c.run_head.ensures.few,
      c.requires.few,
      c.kept-rest.ensures,
      cost_small c.args.costs.now c.args.elements.now 0 (c.args.at.place + c.args.count) c.args.at.mode c.requires.filled c.requires.valid (omega arith)
          (run_within c.args.elements.now c.args.at.place c.args.at.mode c.args.count c.args.long c.requires.front (omega (arith, c.requires.within))),
    )

pub returns-then-run_head-count-clause-found : goal.returns-then-run_head-count-clause-found
returns-then-run_head-count-clause-found c = (
  refl,
  run_cheap c.args.costs.now c.args.elements.now c.args.at.place c.args.at.mode c.args.count c.args.long c.requires.front
      (omega (arith, c.run_head.ensures.is, c.kept-rest.ensures, c.kept.ensures, c.if-run_head-count.true)),
)

pub returns-else-run_head-count-clause-none : goal.returns-else-run_head-count-clause-none
returns-else-run_head-count-clause-none c =
    run_dear c.args.costs.now c.args.elements.now c.args.at.place c.args.at.mode c.args.count c.args.long
    (λ cheap. c.if-run_head-count.false (omega (arith, c.run_head.ensures.is, c.kept-rest.ensures, c.kept.ensures, cheap)))
