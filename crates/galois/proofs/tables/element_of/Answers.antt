use Rattle.std.proofs.Common.{◌∙◌, bit_and, ap}
use Rattle.galois.proofs.TableLaws.{masked_order}
use Rattle.galois.proofs.tables.element_of.Goals as goal

pub returns : goal.returns
returns g c = c.in-Some.ensures.numbered ∙ ap (bit_and c.args.number) c.ORDER.ensures ∙ masked_order g.met.F.Field.size c.args.number c.requires
