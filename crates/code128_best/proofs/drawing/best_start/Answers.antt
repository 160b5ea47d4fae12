use Rattle.std.proofs.Common.{refl, arith}
use Rattle.code128_best.specs.declared.state.CodeSet.TheVariants.{A, B, C}
use Rattle.code128_best.specs.Spelling.{state_after_start}
use Rattle.code128_best.proofs.WayLaws.{best_of}
use Rattle.code128_best.proofs.drawing.best_start.Goals as goal
use Rattle.code128_best.proofs.drawing.best_start.Goals.{else-from_a-from_b-via-then-from_a-from_b+else-from_a-from_c, else-from_a-from_b-via-else-from_a-from_b}

pub returns-then-from_a-from_c : goal.returns-then-from_a-from_c
unfolding state_after_start
returns-then-from_a-from_c c =
    best_of c.args.costs.now 103 A refl (omega arith) (omega arith) (omega arith) (λ less. absurd (omega arith)) (λ less. absurd (omega arith)) (omega arith)

pub returns-then-from_b-from_c : goal.returns-then-from_b-from_c
unfolding state_after_start
returns-then-from_b-from_c c =
    elim c.else-from_a-from_b.branch [
      | else-from_a-from_b-via-then-from_a-from_b+else-from_a-from_c w ↦
          best_of c.args.costs.now 104 B refl (omega arith) (omega arith) (omega arith) (λ less. omega arith) (λ less. absurd (omega arith)) (omega arith)
      | else-from_a-from_b-via-else-from_a-from_b w ↦
          best_of c.args.costs.now 104 B refl (omega arith) (omega arith) (omega arith) (λ less. omega arith) (λ less. absurd (omega arith)) (omega arith)
    ]

pub returns-else-from_b-from_c : goal.returns-else-from_b-from_c
unfolding state_after_start
returns-else-from_b-from_c c =
    elim c.else-from_a-from_b.branch [
      | else-from_a-from_b-via-then-from_a-from_b+else-from_a-from_c w ↦
          best_of c.args.costs.now 105 C refl (omega arith) (omega arith) (omega arith) (λ less. omega arith) (λ less. omega arith) (omega arith)
      | else-from_a-from_b-via-else-from_a-from_b w ↦
          best_of c.args.costs.now 105 C refl (omega arith) (omega arith) (omega arith) (λ less. omega arith) (λ less. omega arith) (omega arith)
    ]
