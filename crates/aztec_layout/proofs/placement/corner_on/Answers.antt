use Rattle.std.proofs.Common.{◌-◌, ◌*◌, ◌/◌, ◌%◌, ◌∙◌, ℕ, ap, sym}
use Rattle.aztec_layout.specs.Places.{corner_of}
use Rattle.aztec_layout.proofs.Sides.{corner_side}
use Rattle.aztec_layout.proofs.placement.corner_on.Goals as goal

pub returns-clause-column : goal.returns-clause-column
returns-clause-column c =
    c.turned.ensures.column
    ∙ ap (λ (b : ℕ). (corner_of (2 * c.args.layer) (b - 1 - 2 * c.args.layer) c.args.side (c.args.along / 2) (c.args.along % 2)).0) c.base.ensures
    ∙ ap (λ (p : ℕ × ℕ). p.0) (sym (corner_side c.args.size c.args.layer c.args.side c.args.along c.requires.along))

pub returns-clause-row : goal.returns-clause-row
returns-clause-row c =
    c.turned.ensures.row
    ∙ ap (λ (b : ℕ). (corner_of (2 * c.args.layer) (b - 1 - 2 * c.args.layer) c.args.side (c.args.along / 2) (c.args.along % 2)).1) c.base.ensures
    ∙ ap (λ (p : ℕ × ℕ). p.1) (sym (corner_side c.args.size c.args.layer c.args.side c.args.along c.requires.along))
