use Rattle.std.proofs.Common.{ℕ, ◌+◌, ◌*◌, ◌∙◌, sym, ap, replicate, ne_eqb}
use Rattle.bar_base.specs.Bits.{number_after}
use Rattle.linear_codes.proofs.ItfLaws.{wide_digits, narrow_digits, width_wide, width_narrow}
use Rattle.linear_codes.proofs.itf14_table.with_element.Goals as goal

pub returns-then-element-eq2-clause-digits : goal.returns-then-element-eq2-clause-digits
returns-then-element-eq2-clause-digits c =
    ap (λ (n : ℕ). c.args.number * 8 + n * 7) c.from-digit.ensures
    ∙ wide_digits c.args.number c.args.dark
    ∙ ap (λ (n : ℕ). number_after c.args.number (replicate n c.args.dark)) (sym (width_wide c.args.element c.if-element-eq2.true))

pub returns-else-element-eq2-clause-digits : goal.returns-else-element-eq2-clause-digits
returns-else-element-eq2-clause-digits c =
    ap (λ (n : ℕ). c.args.number * 2 + n) c.from-digit.ensures
    ∙ narrow_digits c.args.number c.args.dark
    ∙ ap (λ (n : ℕ). number_after c.args.number (replicate n c.args.dark)) (sym (width_narrow c.args.element (ne_eqb c.args.element 2 c.if-element-eq2.false)))
