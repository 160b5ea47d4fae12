use Rattle.aztec_best.proofs.DataPicks.{plain_pick}
use Rattle.aztec_best.proofs.pick.pick_plain.Goals as goal

pub returns : goal.returns
returns c = plain_pick c.args.costs.now c.args.elements.now c.args.at.place c.args.at.mode c.pick_data.result c.pick_data.ensures
