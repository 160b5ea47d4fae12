use Rattle.rs_decode.proofs.Outcomes.{all_corrected, all_beyond}
use Rattle.rs_decode.proofs.room.decode.Goals as goal

pub returns-clause-corrected : goal.returns-clause-corrected
returns-clause-corrected g c =
    all_corrected g.met.F.Field.laws g.F.PartialEq.eq g.met.F.Field.equal c.decode_with_lost.result c.args.c c.args.word.now c.decode_with_lost.new.word c.decode_with_lost.ensures.restored

pub returns-clause-beyond : goal.returns-clause-beyond
returns-clause-beyond g c =
    all_beyond g.met.F.Field.laws g.F.PartialEq.eq g.met.F.Field.equal c.decode_with_lost.result c.args.c c.args.word.now c.decode_with_lost.new.word c.decode_with_lost.ensures.beyond
