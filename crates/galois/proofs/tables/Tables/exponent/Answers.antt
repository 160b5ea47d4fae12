use Rattle.std.proofs.Common.{◌∙◌, ap, get_or, arith}
use Rattle.galois.proofs.TableLaws.{exponent_below, exponent_at}
use Rattle.galois.proofs.tables.Tables.exponent.Goals as goal

pub bounds-self-number : goal.bounds-self-number
bounds-self-number g c = omega (arith, c.number.ensures, c.args.self.now.are.exponents_long, g.met.F.Field.numbering.within c.args.element)

pub returns-clause-below : goal.returns-clause-below
returns-clause-below g c =
    let is = c.from.ensures ∙ ap (λ n. get_or c.args.self.now.exponents.now n 0) c.number.ensures in
    omega (arith, is, exponent_below g.met.F.Field.laws g.F.Field.value g.met.F.Field.numbering _ _ c.args.self.now.are c.args.element c.requires)

pub returns-clause-power : goal.returns-clause-power
returns-clause-power g c =
    ap g.F.Field.power (c.from.ensures ∙ ap (λ n. get_or c.args.self.now.exponents.now n 0) c.number.ensures)
    ∙ exponent_at g.met.F.Field.laws g.F.Field.value g.met.F.Field.numbering _ _ c.args.self.now.are c.args.element c.requires
