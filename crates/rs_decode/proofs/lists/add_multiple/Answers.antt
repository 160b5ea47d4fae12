use Rattle.std.proofs.Common.{◌∙◌, sym}
use Rattle.rs_decode.proofs.ListSums.{added_nothing}
use Rattle.rs_decode.proofs.lists.add_multiple.Goals as goal

pub returns-then-eq : goal.returns-then-eq
returns-then-eq g c =
    added_nothing g.met.F.Field.laws c.args.factor c.args.target.now c.args.source.now ((g.met.F.Field.equal c.args.factor c.zero.result).0 (sym c.if-eq.ensures) ∙ c.zero.ensures)
