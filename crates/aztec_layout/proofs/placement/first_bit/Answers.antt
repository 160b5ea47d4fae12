use Rattle.std.proofs.Common.{ℕ, ◌-◌, ◌*◌, ap, ◌∙◌}
use Rattle.aztec_layout.proofs.Layers.{bits_before-product}
use Rattle.aztec_layout.proofs.placement.first_bit.Goals as goal

pub returns : goal.returns
returns c =
    ap (λ (b : ℕ). 8 * c.args.layer * (b - 2 * c.args.layer)) c.base.ensures ∙ bits_before-product c.args.size c.args.layer c.requires.layer
