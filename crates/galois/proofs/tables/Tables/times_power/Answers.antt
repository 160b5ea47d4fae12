use Rattle.std.proofs.Common.{◌≡◌, ◌∙◌, sym, ap}
use Rattle.galois.proofs.Sums.{nought_mul, power_add}
use Rattle.galois.proofs.tables.Tables.times_power.Goals as goal

pub returns-then-eq : goal.returns-then-eq
returns-then-eq g c =
    let is : c.args.element ≡ g.F.Field.nought = (g.met.F.Field.equal c.args.element c.zero.result).0 (sym c.if-eq.ensures) ∙ c.zero.ensures in
    is ∙ sym (ap (λ x. g.F.Field.times x (g.F.Field.power c.args.exponent)) is ∙ nought_mul g.met.F.Field.laws (g.F.Field.power c.args.exponent))

pub returns : goal.returns
returns g c =
    c.power.ensures ∙ power_add g.met.F.Field.laws c.exponent.result c.args.exponent
    ∙ ap (λ x. g.F.Field.times x (g.F.Field.power c.args.exponent)) c.exponent.ensures.power
