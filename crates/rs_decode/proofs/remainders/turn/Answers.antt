use Rattle.rs_decode.proofs.Euclid.{turned_round}
use Rattle.rs_decode.proofs.remainders.turn.Goals as goal

pub returns-clause-kept : goal.returns-clause-kept
returns-clause-kept g c = λ series holds.
    turned_round g.met.F.Field.laws series c.args.sizes.few _ _ _ _ (c.step-next.ensures.kept series (turned_round g.met.F.Field.laws series c.args.sizes.few _ _ _ _ holds))
