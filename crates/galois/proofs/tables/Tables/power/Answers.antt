use Rattle.std.proofs.Common.{◌∙◌, arith}
use Rattle.galois.proofs.TableLaws.{power_at}
use Rattle.galois.proofs.tables.Tables.power.Goals as goal

pub bounds-self-exponent : goal.bounds-self-exponent
bounds-self-exponent g c = omega (arith, c.requires, c.args.self.now.are.powers_long)

pub element_of-requires : goal.element_of-requires
element_of-requires g c =
    let is = power_at g.met.F.Field.laws g.F.Field.value g.met.F.Field.numbering _ _ c.args.self.now.are c.args.exponent c.requires in
    omega (arith, c.from.ensures, is, g.met.F.Field.numbering.within (g.F.Field.power c.args.exponent))

pub returns : goal.returns
returns g c =
    let is = power_at g.met.F.Field.laws g.F.Field.value g.met.F.Field.numbering _ _ c.args.self.now.are c.args.exponent c.requires in
    g.met.F.Field.numbering.same _ _ (c.element_of.ensures ∙ c.from.ensures ∙ is)
