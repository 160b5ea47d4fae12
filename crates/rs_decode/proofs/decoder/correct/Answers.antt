use Rattle.std.proofs.Common.{◌∙◌, arith, length}
use Rattle.rs_decode.proofs.Outcomes.{unharmed, all_restored, all_lost}
use Rattle.rs_decode.proofs.decoder.correct.Goals as goal

pub returns-then-is_check_word-clause-restored : goal.returns-then-is_check_word-clause-restored
returns-then-is_check_word-clause-restored g c =
    unharmed g.met.F.Field.laws g.F.PartialEq.eq g.met.F.Field.equal c.args.lost.now c.args.word.now (length c.args.syndromes.now) c.requires.fits
    (omega (arith, c.count_lost.ensures, c.if-count_lost-syndromes.false)) (c.is_check_word.ensures.0 c.if-is_check_word.true)

pub returns-clause-restored : goal.returns-clause-restored
returns-clause-restored g c =
    all_restored g.met.F.Field.laws g.F.PartialEq.eq g.met.F.Field.equal c.confirm.result c.args.lost.now c.args.word.now c.find_nearest.new.fixed c.confirm.new.word (length c.args.syndromes.now)
    (length c.find_syndromes.new.syndromes) (length c.find_nearest.new.syndromes) (c.find_syndromes.auto.syndromes ∙ c.is_check_word.auto.check) (c.find_nearest.auto.syndromes ∙ c.find_syndromes.auto.syndromes ∙ c.is_check_word.auto.check)
    c.confirm.ensures.near c.confirm.ensures.fixed c.confirm.ensures.distance c.find_nearest.ensures.only

pub returns-clause-beyond : goal.returns-clause-beyond
returns-clause-beyond g c =
    all_lost g.met.F.Field.laws g.F.PartialEq.eq g.met.F.Field.equal c.confirm.result c.args.lost.now c.args.word.now c.find_nearest.new.fixed c.confirm.new.word (length c.args.syndromes.now)
    (length c.find_syndromes.new.syndromes) (length c.find_nearest.new.syndromes) (c.find_syndromes.auto.syndromes ∙ c.is_check_word.auto.check) (c.find_nearest.auto.syndromes ∙ c.find_syndromes.auto.syndromes ∙ c.is_check_word.auto.check)
    c.confirm.ensures.far c.confirm.ensures.stays c.find_nearest.ensures.only
