use Rattle.rs_encode.proofs.DivisionLemmas.{fed_one}
use Rattle.rs_encode.proofs.division.feed.Goals as goal

pub returns : goal.returns
returns g c = λ fed held.
    fed_one g.met.F.Field.laws c.args.exponents.now c.args.registers.now _ fed c.index-registers-0.result c.args.element c.add-factor.result c.requires.some c.requires.alike c.index-registers-0.is
    c.add-factor.ensures c.move_up.ensures c.requires.generator held
