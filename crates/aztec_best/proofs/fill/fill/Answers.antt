use Rattle.std.proofs.Common.{◌∙◌, sym, subst, ℕ, arith}
use Rattle.aztec_modes.specs.declared.mode.Mode.TheVariants.{Upper}
use Rattle.aztec_best.specs.Shortest.{IsLeast}
use Rattle.aztec_best.proofs.fill.fill.Goals as goal

pub returns-clause-fewest : goal.returns-clause-fewest
returns-clause-fewest c =
    subst (λ (n : ℕ). IsLeast Upper c.args.elements.now n) (sym (c.from.ensures ∙ c.kept.ensures)) (c.fill_places.ensures.least 0 Upper (omega arith) (omega arith))
