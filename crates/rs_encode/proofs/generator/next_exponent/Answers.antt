use Rattle.std.proofs.Common.{◌∙◌, sym, ap}
use Rattle.rs_encode.proofs.GeneratorLemmas.{lower_some, quotient_next, quotient_some}
use Rattle.rs_encode.proofs.generator.next_exponent.Goals as goal

pub over-requires : goal.over-requires
over-requires g c = λ none.
    lower_some g.met.F.Field.laws c.args.count c.args.behind c.requires.behind c.requires.few
    (sym (c.add-lower.ensures ∙ ap (λ x. g.F.Field.plus x c.power-high.result) c.power-2.ensures ∙ ap (g.F.Field.plus (g.F.Field.power c.args.behind)) c.power-high.ensures) ∙ none)

pub exponent-requires : goal.exponent-requires
exponent-requires g c =
    quotient_some g.met.F.Field.laws c.args.count c.args.behind c.args.before c.over.result c.requires.behind c.requires.few
    (quotient_next g.met.F.Field.laws c.args.count c.args.behind c.args.before c.add-upper.result c.times_power.result c.add-lower.result c.over.result c.requires.behind c.requires.few
    (c.add-upper.ensures ∙ ap (λ x. g.F.Field.plus x c.power.result) c.power-high.ensures ∙ ap (g.F.Field.plus (g.F.Field.power c.args.count)) c.power.ensures)
    (c.add-lower.ensures ∙ ap (λ x. g.F.Field.plus x c.power-high.result) c.power-2.ensures ∙ ap (g.F.Field.plus (g.F.Field.power c.args.behind)) c.power-high.ensures)
    c.times_power.ensures c.over.ensures)

pub returns-clause-next : goal.returns-clause-next
returns-clause-next g c =
    ap (λ x. g.F.Field.times x (g.F.Field.plus (g.F.Field.power c.args.behind) (g.F.Field.power c.args.count))) c.exponent.ensures.power
    ∙ quotient_next g.met.F.Field.laws c.args.count c.args.behind c.args.before c.add-upper.result c.times_power.result c.add-lower.result c.over.result c.requires.behind c.requires.few
    (c.add-upper.ensures ∙ ap (λ x. g.F.Field.plus x c.power.result) c.power-high.ensures ∙ ap (g.F.Field.plus (g.F.Field.power c.args.count)) c.power.ensures)
    (c.add-lower.ensures ∙ ap (λ x. g.F.Field.plus x c.power-high.result) c.power-2.ensures ∙ ap (g.F.Field.plus (g.F.Field.power c.args.behind)) c.power-high.ensures)
    c.times_power.ensures c.over.ensures
