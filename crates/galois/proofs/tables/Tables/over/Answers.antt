use Rattle.std.proofs.Common.{◌∙◌, ◌-◌, ℕ, ap, arith}
use Rattle.galois.proofs.TableLaws.{over_power}
use Rattle.galois.proofs.tables.Tables.over.Goals as goal

pub returns : goal.returns
returns g c =
    ap (λ x. g.F.Field.times x c.args.divisor) (c.times_power.ensures ∙ ap (λ (n : ℕ). g.F.Field.times c.args.element (g.F.Field.power (n - c.exponent.result))) c.ORDER.ensures)
    ∙ over_power g.met.F.Field.laws g.F.Field.value g.met.F.Field.numbering c.args.element c.args.divisor c.exponent.result c.exponent.ensures.power (omega (arith, c.exponent.ensures.below))
